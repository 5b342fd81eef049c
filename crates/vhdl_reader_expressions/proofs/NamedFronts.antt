-- Where a reader of bounds stops, some tokens more would have made bounds. Those that are a name are one whatever follows.
use Rattle.std.proofs.Common.{◌≡◌, ℕ, zero, suc, Bool, true, false, List, [], ◌∷◌, ◌++◌, Option, Some, None, refl, sym, ap, ◌∙◌, subst}
use Rattle.vhdl_tokens.specs.declared.token.Token.{Token}
use Rattle.vhdl_tokens.specs.declared.reserved.Reserved.TheVariants as reserved
use Rattle.vhdl_tree.specs.declared.expressions.Expr.{Expr, out-Expr}
use Rattle.vhdl_tree.specs.declared.expressions.Expr.TheVariants as expr
use Rattle.vhdl_tree.specs.declared.expressions.Choice.TheOpen.{Expr-F}
use Rattle.vhdl_tree.specs.declared.expressions.Name.{Name}
use Rattle.vhdl_tree.specs.declared.declarations.Bounds.{Bounds}
use Rattle.vhdl_tree.specs.declared.declarations.Bounds.TheVariants as some_bounds
use Rattle.vhdl_tree.specs.declared.expressions.Direction.TheVariants as direction
use Rattle.vhdl_tree.specs.Words.{Span, id, word, kind_of}
use Rattle.vhdl_tree.specs.Expressions.{direction_of, SimpleWithin, NameOf}
use Rattle.vhdl_tree.specs.Ranges.{IsBounds}
use Rattle.vhdl_reader_expressions.specs.Steps.{Answer, Found, Stopped, Spent, stop}
use Rattle.vhdl_reader_expressions.proofs.Sound.{reads}
use Rattle.vhdl_reader_expressions.proofs.FrontSteps.{Front, same_front, State, Holds, Leads, LeadsTo, LeadsFrom, Some_of, Viable, one_before, ◌then◌, somewhere, start_f, call_f, bind_f, pure_f, stop_f, known_f, after_f, choose_f, look_f}
use Rattle.vhdl_reader_expressions.specs.Reading as spec
use Rattle.vhdl_reader_expressions.specs.Reading.{Layer, simple_at, name_from_within, bounds, bounds_after, bounds_by, bounds_alone, bounds_within}
use Rattle.vhdl_reader_expressions.proofs.Sounds.{simple_sound}
use Rattle.vhdl_reader_expressions.proofs.NamedBounds.{name_in, as_name, literal_opens, within_name}
use Rattle.vhdl_reader_expressions.proofs.NamesApart.{name_apart}
use Rattle.vhdl_reader_expressions.proofs.Fronts.{simple_viable, identifier_simple, name_from_f}

-- where the tree is that of a name, a name stands there
abbrev Named : Expr → State
Named a ts us = (n : Name) → as_name a ≡ Some n → Some_of NameOf ts us

-- a simple expression, and a name where it is one
abbrev Begun : ℕ → Bool → Expr → State
Begun bound named a ts us = Some_of (SimpleWithin (suc bound)) ts us × (named ≡ true → Named a ts us)

never_named : (t : Token) (ts us : List Token) → Named (expr.Literal t) ts us
never_named t ts us n is = let e = literal_opens t in absurd cc

named_f : (bound : ℕ) → LeadsFrom (λ us. Unit {0} × (spec.begins_name (kind_of us) ≡ true)) (λ ts us. us ≡ ts) (simple_at bound bound) (Begun bound true)
named_f bound = record {
  holds = λ f us known b. by f us known.1 b (simple_at bound bound us) refl ((simple_viable bound bound).leads.holds f us tt b);
  seed = λ f b. let s = (simple_viable bound bound).leads.seed f b in (s.0, expr.Literal (id somewhere), λ vs. (s.2 vs, λ e. never_named (id somewhere) (f.put (s.0.put vs)) vs));
}
  where
    by : (f : Front) (us : List Token) → spec.begins_name (kind_of us) ≡ true → Holds (λ ts us. us ≡ ts) f → (r : Answer Expr) → simple_at bound bound us ≡ r
        → Leads (λ a. Some_of (SimpleWithin (suc bound))) f us r → Leads (Begun bound true) f us r
    by f us begins b (Found a vs) e h = (
      h.0,
      h.1,
      λ ws. (
        h.2 ws,
        λ t n is.
            let l = name_apart us vs n (within_name bound us a vs n (reads (simple_sound bound bound) us a vs e) is begins) in
            subst (λ zs. Some_of NameOf zs ws) (same_front l.0 h.0 us vs ws l.1 h.1 ∙ b (h.0.put ws)) (l.2 ws),
      ),
    )
    by f us begins b (Stopped vs) e h = (h.0, h.1, (h.2.0, expr.Literal (id somewhere), λ ws. (h.2.2 ws, λ t. never_named (id somewhere) (f.put (h.0.put (h.2.0.put ws))) ws)))
    by f us begins b Spent e h = tt

begun_f : (bound : ℕ) (named : Bool) → LeadsFrom (λ us. Unit {0} × (spec.begins_name (kind_of us) ≡ named)) (λ ts us. us ≡ ts) (simple_at bound bound) (Begun bound named)
begun_f bound true = named_f bound
begun_f bound false = after_f (λ a ts us h. (h, λ e. absurd cc)) (known_f _ (start_f (simple_viable bound bound)))

-- a range would do
stops_f : (bound : ℕ) (named : Bool) (left : Expr) → LeadsTo {A = Bounds} (Begun bound named left) stop (λ a. Some_of IsBounds)
stops_f bound named left = stop_f (one_before (word reserved.To somewhere) then one_before (id somewhere)) (some_bounds.Range left direction.To left)
    (λ ts us h. (_, IsBounds.range (suc bound, h.0.1) refl (suc zero, identifier_simple (SimpleWithin zero) somewhere us)))

layer_f : (bound : ℕ) (left : Expr) (layer : Layer) → out-Expr left ≡ layer → LeadsTo (Begun bound true left) (spec.bounds_of layer) (λ a. Some_of IsBounds)
layer_f bound left (Expr-F.Name n) is = pure_f (λ ts us h. let name = h.1 refl n (ap name_in is) in (_, IsBounds.name name.1))
layer_f bound left _ is = stops_f bound true left

bounds_by_f : (bound : ℕ) (named : Bool) (left : Expr) → LeadsTo (Begun bound named left) (bounds_by named left) (λ a. Some_of IsBounds)
unfolding bounds_by bounds_alone
bounds_by_f bound true left = layer_f bound left (out-Expr left) refl
bounds_by_f bound false left = stops_f bound false left

bounds_start_f : (bound : ℕ) (named : Bool) → LeadsFrom (λ us. Unit {0} × (spec.begins_name (kind_of us) ≡ named)) (λ ts us. us ≡ ts) (spec.bounds_start bound (simple_at bound bound) named) (λ a. Some_of IsBounds)
unfolding bounds_after
bounds_start_f bound named = bind_f (begun_f bound named) (λ left. choose_f direction_of refl
    (λ d. bind_f (call_f (simple_viable bound bound)) (λ right. pure_f (λ ts us h. (_, IsBounds.range (suc bound, h.1.2.0.1) h.1.3 (suc bound, h.2.1))))) (bounds_by_f bound named left))

pub bounds_viable : (bound : ℕ) → Viable (bounds_within bound) IsBounds
unfolding bounds_within bounds
bounds_viable bound = record { leads = look_f spec.begins_name (spec.bounds_start bound (simple_at bound bound)) false (bounds_start_f bound) }
