-- Bounds that are a name: an expression that begins with an identifier and has the tree of a name is a name.
use Rattle.std.proofs.Common.{◌≡◌, ℕ, zero, suc, Bool, true, false, List, [], ◌∷◌, Option, Some, None, refl, subst, ap, rules, arith}
use Rattle.vhdl_tokens.specs.declared.token.Kind.TheVariants as kind
use Rattle.vhdl_tokens.specs.declared.token.Token.{Token}
use Rattle.vhdl_tree.specs.declared.expressions.Expr.{Expr, out-Expr, the_lemmas}
use Rattle.vhdl_tree.specs.declared.expressions.Expr.TheVariants as expr
use Rattle.vhdl_tree.specs.declared.expressions.Operator.TheVariants as op
use Rattle.vhdl_tree.specs.declared.expressions.Unary.{Unary}
use Rattle.vhdl_tree.specs.declared.expressions.Choice.TheOpen.{Expr-F}
use Rattle.vhdl_tree.specs.declared.expressions.Name.{Name}
use Rattle.vhdl_tree.specs.declared.expressions.Link.{Link}
use Rattle.vhdl_tree.specs.Words.{Span, tok, id, kind_of, place_of}
use Rattle.vhdl_tree.specs.Lists.{Operations}
use Rattle.vhdl_tree.specs.Expressions.{link_of, direction_of, SimpleWithin, NameOf, IsName, IsPrimary, IsFactor, IsTerm, IsSigned, IsSimple}
use Rattle.vhdl_tree.specs.Ranges.{IsBounds}
use Rattle.vhdl_reader_expressions.proofs.Sound.{Triple, Sound, bind_t, call_t, pure_t, choose_t, look_t, start_t, before_t, after_t, frame_t, stop_t}
use Rattle.vhdl_reader_expressions.specs.Reading as spec
use Rattle.vhdl_reader_expressions.specs.Reading.{Layer, simple_at, name_from_within, bounds, bounds_after, bounds_by, bounds_alone, bounds_within}
use Rattle.vhdl_reader_expressions.proofs.Sounds as sounds

-- the name that an expression is, by one level of it
abbrev pub name_in : Layer → Option Name
name_in (Expr-F.Name n) = Some n
name_in _ = None

abbrev pub as_name : Expr → Option Name
as_name e = name_in (out-Expr e)

name_opens : (m : Name) → as_name (expr.Name m) ≡ Some m
name_opens m = first_of (search (rules, the_lemmas), grind (arith, the_lemmas))

pub chain_opens : (place : ℕ) (a : Expr) (links : List Link) → as_name (expr.Chain place a links) ≡ None
chain_opens place a links = first_of (search (rules, the_lemmas), grind (arith, the_lemmas))

unary_opens : (place : ℕ) (o : Unary) (a : Expr) → as_name (expr.Unary place o a) ≡ None
unary_opens place o a = first_of (search (rules, the_lemmas), grind (arith, the_lemmas))

number_opens : (t : Token) (unit : Option Token) → as_name (expr.Number t unit) ≡ None
number_opens t unit = first_of (search (rules, the_lemmas), grind (arith, the_lemmas))

pub literal_opens : (t : Token) → as_name (expr.Literal t) ≡ None
literal_opens t = first_of (search (rules, the_lemmas), grind (arith, the_lemmas))

module _ (S : List Token → Expr → List Token → Type 0) where
  primary_name : (ts : List Token) (a : Expr) (us : List Token) (n : Name) → IsPrimary S ts a us → as_name a ≡ Some n → spec.begins_name (kind_of ts) ≡ true → IsName S ts n us
  primary_name ts a us n (IsPrimary.name {n = m} r) is begins = let e = name_opens m in let same : m ≡ n = cc in subst (λ x. IsName S ts x us) same r
  primary_name ts a us n (IsPrimary.number {x = x} {unit = unit} r) is begins = let e = number_opens (tok kind.Int x) unit in absurd cc
  primary_name ts a us n (IsPrimary.literal {k = k} {x = x} r) is begins = let e = literal_opens (tok k x) in absurd cc
  primary_name ts a us n (IsPrimary.bracket r) is begins = absurd cc

  factor_name : (ts : List Token) (a : Expr) (us : List Token) (n : Name) → IsFactor S ts a us → as_name a ≡ Some n → spec.begins_name (kind_of ts) ≡ true → IsName S ts n us
  factor_name ts a us n (IsFactor.plain r) is begins = primary_name ts a us n r is begins
  factor_name ts a us n (IsFactor.power {a = b} {b = d} r s) is begins = let e = chain_opens (place_of ts) b (link_of op.Power d ∷ []) in absurd cc
  factor_name ts a us n (IsFactor.prefixed {x = x} {o = o} {a = b} p r) is begins = let e = unary_opens x.start o b in absurd cc

  term_name : (ts : List Token) (a : Expr) (us : List Token) (n : Name) → IsTerm S ts a us → as_name a ≡ Some n → spec.begins_name (kind_of ts) ≡ true → IsName S ts n us
  term_name ts a us n (IsTerm.factors {a = b} r Operations.none) is begins = factor_name ts b us n r is begins
  term_name ts a us n (IsTerm.factors {a = b} r (Operations.more {op = o} {a = d} {all = links} p s rest)) is begins = let e = chain_opens (place_of ts) b (link_of o d ∷ links) in absurd cc

  signed_name : (ts : List Token) (a : Expr) (us : List Token) (n : Name) → IsSigned S ts a us → as_name a ≡ Some n → spec.begins_name (kind_of ts) ≡ true → IsName S ts n us
  signed_name ts a us n (IsSigned.plain r) is begins = term_name ts a us n r is begins
  signed_name ts a us n (IsSigned.signed {x = x} {o = o} {a = b} p r) is begins = let e = unary_opens x.start o b in absurd cc

  simple_name : (ts : List Token) (a : Expr) (us : List Token) (n : Name) → IsSimple S ts a us → as_name a ≡ Some n → spec.begins_name (kind_of ts) ≡ true → IsName S ts n us
  simple_name ts a us n (IsSimple.terms {a = b} r Operations.none) is begins = signed_name ts b us n r is begins
  simple_name ts a us n (IsSimple.terms {a = b} r (Operations.more {op = o} {a = d} {all = links} p s rest)) is begins = let e = chain_opens (place_of ts) b (link_of o d ∷ links) in absurd cc

pub within_name : (depth : ℕ) (ts : List Token) (a : Expr) (us : List Token) (n : Name) → SimpleWithin depth ts a us → as_name a ≡ Some n → spec.begins_name (kind_of ts) ≡ true → NameOf ts n us
within_name zero ts a us n h is begins = absurd h
within_name (suc depth) ts a us n h is begins = (depth, simple_name (SimpleWithin depth) ts a us n h is begins)

-- what an expression is alone, by one level of it
layer_t : (ts : List Token) (left : Expr) (layer : Layer) → out-Expr left ≡ layer → (depth : ℕ)
    → Triple (λ us. SimpleWithin depth ts left us × (spec.begins_name (kind_of ts) ≡ true)) (spec.bounds_of layer) (IsBounds ts)
layer_t ts left (Expr-F.Name n) is depth = pure_t (λ us h. IsBounds.name (within_name depth ts left us n h.0 (ap name_in is) h.1))
layer_t ts left _ is depth = stop_t

bounds_by_t : (ts : List Token) (left : Expr) (depth : ℕ) (named : Bool) → Triple (λ us. SimpleWithin depth ts left us × (spec.begins_name (kind_of ts) ≡ named)) (bounds_by named left) (IsBounds ts)
unfolding bounds_by bounds_alone
bounds_by_t ts left depth true = layer_t ts left (out-Expr left) refl depth
bounds_by_t ts left depth false = stop_t

bounds_start_t : (bound : ℕ) (ts : List Token) (named : Bool) → Triple (λ us. (us ≡ ts) × (spec.begins_name (kind_of us) ≡ named)) (spec.bounds_start bound (simple_at bound bound) named) (IsBounds ts)
unfolding bounds_after
bounds_start_t bound ts named = bind_t (before_t (λ us h. (h.0, subst (λ zs. spec.begins_name (kind_of zs) ≡ named) h.0 h.1)) (frame_t (start_t (sounds.simple_sound bound bound))))
    (λ left. choose_t direction_of refl (λ d. bind_t (call_t (sounds.simple_sound bound bound)) (λ right. pure_t (λ us h. IsBounds.range (bound, h.1.2.0) h.1.3 (bound, h.2)))) (bounds_by_t ts left bound named))

pub bounds_sound : (bound : ℕ) → Sound (bounds_within bound) IsBounds
unfolding bounds_within bounds
bounds_sound bound = record { from = λ ts. look_t spec.begins_name (spec.bounds_start bound (simple_at bound bound)) (bounds_start_t bound ts) }

-- a name whose identifier is read already
pub name_from_sound : (bound : ℕ) (ts : List Token) (x : Span) → Triple (λ us. id x ∷ us ≡ ts) (name_from_within bound (id x)) (NameOf ts)
unfolding name_from_within
name_from_sound bound ts x = after_t (λ a us h. (bound, h)) (sounds.name_from_t bound (simple_at bound bound) (SimpleWithin bound) (sounds.simple_sound bound bound) ts x)
