-- Expressions, names, choices and discrete ranges that stand there are read, unless a bound is used up. What the crates above need.
use Rattle.std.proofs.Common.{◌≡◌, ℕ, suc, true, Some, List, ◌∷◌, refl, ap, subst, arith}
use Rattle.vhdl_tokens.specs.declared.token.Token.{Token}
use Rattle.vhdl_tree.specs.declared.expressions.Expr.{Expr, roll-Expr, out-Expr, out-roll-Expr}
use Rattle.vhdl_tree.specs.declared.expressions.Choice.TheOpen.{Expr-F}
use Rattle.vhdl_tree.specs.declared.expressions.Expr.TheVariants as expr
use Rattle.vhdl_tree.specs.declared.expressions.Name.{Name}
use Rattle.vhdl_tree.specs.declared.expressions.Choice.{Choice}
use Rattle.vhdl_tree.specs.declared.declarations.Bounds.{Bounds}
use Rattle.vhdl_tree.specs.declared.declarations.Bounds.TheVariants as some_bounds
use Rattle.vhdl_tree.specs.Words.{id, kind_of}
use Rattle.vhdl_tree.specs.Lists.{Separated, Operations}
use Rattle.vhdl_tree.specs.Expressions.{direction_of, name_of, SimpleWithin, Simple, Expression, NameOf, Choices, IsName, IsPrimary, IsFactor, IsTerm, IsSigned, IsSimple, IsRelation, IsExpression, IsChoice, IsChoices}
use Rattle.vhdl_tree.specs.Ranges.{IsBounds}
use Rattle.vhdl_reader_expressions.specs.Steps.{Found}
use Rattle.vhdl_reader_expressions.proofs.Complete.{Reaches, Complete, bind_up, pure_up, choose_hit, choose_miss, look_up, is_up}
use Rattle.vhdl_reader_expressions.specs.Reading as spec
use Rattle.vhdl_reader_expressions.specs.Reading.{begins_name, simple_at, bounds_alone, bounds_by, bounds_after, bounds, expression_within, choices_within, name_from_within, name_within, bounds_within}
use Rattle.vhdl_reader_expressions.proofs.Begins.{begins_expression, begins_choice, choice_of_expression, name_begins}
use Rattle.vhdl_reader_expressions.proofs.Follow.{Ends, EndsChoices, EndsBounds, rank_of_direction, ends_at}
use Rattle.vhdl_reader_expressions.proofs.Completes.{expression_complete}
use Rattle.vhdl_reader_expressions.proofs.Elements.{choices_complete}
use Rattle.vhdl_reader_expressions.proofs.Names.{name_up, name_from_up}
use Rattle.vhdl_reader_expressions.proofs.Levels.{within_begins, simple_complete}

-- ---- what they begin with

pub simple_starts : {ts us : List Token} {a : Expr} → Simple ts a us → begins_expression (kind_of ts) ≡ true
simple_starts {ts = ts} {us = us} {a = a} r = within_begins r.0 ts us a r.1

relation_starts : (depth : ℕ) {ts us : List Token} {a : Expr} → IsRelation (SimpleWithin depth) ts a us → begins_expression (kind_of ts) ≡ true
relation_starts depth (IsRelation.plain r) = within_begins depth _ _ _ r
relation_starts depth (IsRelation.compared r is s) = within_begins depth _ _ _ r

expression_by : (depth : ℕ) {ts us : List Token} {a : Expr} → IsExpression (SimpleWithin depth) ts a us → begins_expression (kind_of ts) ≡ true
expression_by depth (IsExpression.chain o r list) = relation_starts depth r
expression_by depth (IsExpression.once r is s) = relation_starts depth r

pub expression_starts : {ts us : List Token} {a : Expr} → Expression ts a us → begins_expression (kind_of ts) ≡ true
expression_starts r = expression_by r.0 r.1

pub name_starts : {ts us : List Token} {n : Name} → NameOf ts n us → begins_name (kind_of ts) ≡ true
name_starts r = name_begins (SimpleWithin r.0) r.1

-- a name is a simple expression
pub name_is_simple : {ts us : List Token} {n : Name} → NameOf ts n us → Simple ts (expr.Name n) us
name_is_simple r = (suc r.0, IsSimple.terms (IsSigned.plain (IsTerm.factors (IsFactor.plain (IsPrimary.name r.1)) Operations.none)) Operations.none)

pub bounds_start : {ts us : List Token} {b : Bounds} → IsBounds ts b us → begins_expression (kind_of ts) ≡ true
bounds_start (IsBounds.range r is s) = simple_starts r
bounds_start (IsBounds.name r) = simple_starts (name_is_simple r)

choice_starts : (depth : ℕ) {ts us : List Token} {a : Choice} → IsChoice (SimpleWithin depth) ts a us → begins_choice (kind_of ts) ≡ true
choice_starts depth (IsChoice.value r) = choice_of_expression _ (within_begins depth _ _ _ r)
choice_starts depth (IsChoice.range r is s) = choice_of_expression _ (within_begins depth _ _ _ r)
choice_starts depth IsChoice.others = refl

choices_by : (depth : ℕ) {ts us : List Token} {all : List Choice} → IsChoices (SimpleWithin depth) ts all us → begins_choice (kind_of ts) ≡ true
choices_by depth (Separated.several r rest) = choice_starts depth r

pub choices_start : {ts us : List Token} {all : List Choice} → Choices ts all us → begins_choice (kind_of ts) ≡ true
choices_start r = choices_by r.0 r.1

-- ---- and that they are read

pub expression_reached : (bound : ℕ) → Complete (Ends 1) (expression_within bound) Expression
unfolding expression_within
expression_reached bound = record { reads = λ r h. (expression_complete bound (simple_at bound bound) (SimpleWithin r.0) (simple_complete bound bound r.0)).reads r.1 h }

pub choices_reached : (bound : ℕ) → Complete EndsChoices (choices_within bound) Choices
unfolding choices_within
choices_reached bound = record { reads = λ r h. (choices_complete bound (simple_at bound bound) (SimpleWithin r.0) (simple_complete bound bound r.0) (within_begins r.0)).reads r.1 h }

pub name_reached : (bound : ℕ) → Complete (Ends 6) (name_within bound) NameOf
unfolding name_within
name_reached bound = record { reads = λ r h. name_up bound (simple_at bound bound) (SimpleWithin r.0) (simple_complete bound bound r.0) r.1 h }

-- ---- a name whose identifier was read

name_from_by : (bound depth : ℕ) {ts us vs : List Token} {t : Token} {n : Name} → IsName (SimpleWithin depth) ts n us → ts ≡ t ∷ vs → Ends 6 (kind_of us)
    → Reaches (name_from_within bound t) vs (Found n us)
unfolding name_from_within
name_from_by bound depth {us = us} {vs = vs} {t = t} (IsName.named {ts = ts} {x = x} {parts = parts} list) e h =
    let same : id x ≡ t = cc in let rest : ts ≡ vs = cc in
    subst (λ q. Reaches (spec.name_from bound (simple_at bound bound) q) vs (Found (name_of (id x) parts) us)) same
    (subst (λ xs. Reaches (spec.name_from bound (simple_at bound bound) (id x)) xs (Found (name_of (id x) parts) us)) rest
    (name_from_up bound (simple_at bound bound) (SimpleWithin depth) (simple_complete bound bound depth) (id x) list h))

pub name_from_reached : (bound : ℕ) {t : Token} {ts us : List Token} {n : Name} → NameOf (t ∷ ts) n us → Ends 6 (kind_of us) → Reaches (name_from_within bound t) ts (Found n us)
name_from_reached bound r h = name_from_by bound r.0 r.1 refl h

-- ---- discrete ranges

opened : (n : Name) → out-Expr (expr.Name n) ≡ Expr-F.Name n
unfolding roll-Expr out-Expr denote.Hole.Carrier.roll
opened n = out-roll-Expr (Expr-F.Name n)

alone_up : (n : Name) {us : List Token} → Reaches (bounds_by true (expr.Name n)) us (Found (some_bounds.Name n) us)
unfolding bounds_by bounds_alone
alone_up n {us = us} = is_up (ap (λ l. spec.bounds_of l us) (opened n))

bounds_up : (bound : ℕ) {ts us : List Token} {b : Bounds} → IsBounds ts b us → EndsBounds (kind_of us) → Reaches (bounds_within bound) ts (Found b us)
unfolding bounds_within bounds bounds_after
bounds_up bound (IsBounds.range {k = k} {d = d} r is s) h = look_up begins_name (spec.bounds_start bound (simple_at bound bound)) refl
    (bind_up _ ((simple_complete bound bound r.0).reads r.1 (ends_at 0 3 (omega arith) (rank_of_direction (Some k) d is)))
    (choose_hit direction_of _ _ is (bind_up _ ((simple_complete bound bound s.0).reads s.1 (record { below = h.below })) pure_up)))
bounds_up bound (IsBounds.name {n = n} r) h = let s = name_is_simple r in look_up begins_name (spec.bounds_start bound (simple_at bound bound)) (name_starts r)
    (bind_up _ ((simple_complete bound bound s.0).reads s.1 (record { below = h.below })) (choose_miss direction_of _ _ h.undirected (alone_up n)))

pub bounds_reached : (bound : ℕ) → Complete EndsBounds (bounds_within bound) IsBounds
bounds_reached bound = record { reads = bounds_up bound }
