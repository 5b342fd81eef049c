-- The types that operators, literals and aggregates have.
use Rattle.std.proofs.Common.{◌≡◌, ◌≤◌, ℕ, ◌&&◌, Bool, true, false, List, [], ◌∷◌, length, refl, ap, sym, ◌∙◌, arith, lit≤}
use Rattle.std.specs.List.{filter, list_all, fold}
use Rattle.std.proofs.Math.Bool.{and-true, and_assoc}
use Rattle.std.proofs.lemmas.List.Sums.{length-filter, count_by-le-length}
use Rattle.vhdl_tree.specs.declared.expressions.Operator.{Operator}
use Rattle.vhdl_tree.specs.declared.expressions.Operator.TheVariants as operator
use Rattle.vhdl_tree.specs.declared.expressions.Unary.{Unary}
use Rattle.vhdl_tree.specs.declared.expressions.Unary.TheVariants as unary
use Rattle.vhdl_units.specs.declared.base_type.BaseType.{BaseType}
use Rattle.vhdl_units.specs.declared.base_type.BaseType.TheVariants as base
use Rattle.vhdl_units.specs.Types.{is_array}
use Rattle.vhdl_names_operators.specs.Sets.{has, is_set, predefined, arrays}
use Rattle.vhdl_names_operators.specs.Operators.{is_logical, is_numeric, is_integer, logical, relation, sum, joined, concatenation, product, quotient, integers, can_be, results, is_defined_on, can_be_from, results_from}
use Rattle.vhdl_names_operators.specs.Literals.{spells, of_string, holds, narrowed, aggregates}
use Rattle.vhdl_names_operators.proofs.Members.{has_filter, is_set_filter, exact, predefined_is_set}

-- ---- no operator gives a type of the design

not_own : (op : Operator) (ls rs : List BaseType) (n : ℕ) → can_be op ls rs (base.Own n) ≡ false
unfolding can_be logical relation sum concatenation joined product quotient integers is_logical is_numeric
not_own operator.And ls rs n = refl
not_own operator.Or ls rs n = refl
not_own operator.Xor ls rs n = refl
not_own operator.Xnor ls rs n = refl
not_own operator.Nand ls rs n = refl
not_own operator.Nor ls rs n = refl
not_own operator.Equal ls rs n = refl
not_own operator.NotEqual ls rs n = refl
not_own operator.Less ls rs n = refl
not_own operator.LessEqual ls rs n = refl
not_own operator.Greater ls rs n = refl
not_own operator.GreaterEqual ls rs n = refl
not_own operator.Add ls rs n = refl
not_own operator.Subtract ls rs n = refl
not_own operator.Concatenate ls rs n = refl
not_own operator.Multiply ls rs n = refl
not_own operator.Divide ls rs n = refl
not_own operator.Mod ls rs n = refl
not_own operator.Rem ls rs n = refl
not_own operator.Power ls rs n = refl

not_own_from : (op : Unary) (types : List BaseType) (n : ℕ) → can_be_from op types (base.Own n) ≡ false
unfolding can_be_from is_defined_on is_logical is_numeric is_integer
not_own_from unary.Plus types n = refl
not_own_from unary.Minus types n = refl
not_own_from unary.Abs types n = refl
not_own_from unary.Not types n = refl

not_own_string : (text : List ℕ) (n : ℕ) → spells text (base.Own n) ≡ false
unfolding spells
not_own_string text n = refl

pub has_results : (op : Operator) (ls rs : List BaseType) (t : BaseType) → has (results op ls rs) t ≡ can_be op ls rs t
unfolding results
has_results op ls rs t = exact (can_be op ls rs) (not_own op ls rs) t

pub has_results_from : (op : Unary) (types : List BaseType) (t : BaseType) → has (results_from op types) t ≡ can_be_from op types t
unfolding results_from
has_results_from op types t = exact (can_be_from op types) (not_own_from op types) t

pub has_of_string : (text : List ℕ) (t : BaseType) → has (of_string text) t ≡ spells text t
unfolding of_string
has_of_string text t = exact (spells text) (not_own_string text) t

-- ---- aggregates

pub has_narrowed : (so_far item : List BaseType) (t : BaseType) → has (narrowed so_far item) t ≡ (has so_far t && holds item t)
unfolding narrowed
has_narrowed so_far item t = has_filter (holds item) so_far t

has_narrowed_all : (so_far : List BaseType) (items : List (List BaseType)) (t : BaseType)
    → has (fold narrowed so_far items) t ≡ (has so_far t && list_all (λ item. holds item t) items)
has_narrowed_all so_far [] t = sym (and-true (has so_far t))
has_narrowed_all so_far (item ∷ items) t = has_narrowed_all (narrowed so_far item) items t
    ∙ ap (λ b. b && list_all (λ item. holds item t) items) (has_narrowed so_far item t)
    ∙ and_assoc (has so_far t) (holds item t) (list_all (λ item. holds item t) items)

is_array_type : (t : BaseType) → has arrays t ≡ is_array t
unfolding has
is_array_type base.Boolean = refl
is_array_type base.Bit = refl
is_array_type base.Character = refl
is_array_type base.StdUlogic = refl
is_array_type (base.Own n) = refl
is_array_type base.Integer = refl
is_array_type base.Time = refl
is_array_type base.BitVector = refl
is_array_type base.StdUlogicVector = refl
is_array_type base.String = refl
is_array_type base.IntegerVector = refl

pub has_aggregates : (items : List (List BaseType)) (t : BaseType) → has (aggregates items) t ≡ (is_array t && list_all (λ item. holds item t) items)
unfolding aggregates
has_aggregates items t = has_narrowed_all arrays items t ∙ ap (λ b. b && list_all (λ item. holds item t) items) (is_array_type t)

-- ---- sets

pub is_set_results : (op : Operator) (ls rs : List BaseType) → is_set (results op ls rs) ≡ true
unfolding results
is_set_results op ls rs = is_set_filter (can_be op ls rs) predefined predefined_is_set

pub is_set_results_from : (op : Unary) (types : List BaseType) → is_set (results_from op types) ≡ true
unfolding results_from
is_set_results_from op types = is_set_filter (can_be_from op types) predefined predefined_is_set

pub is_set_of_string : (text : List ℕ) → is_set (of_string text) ≡ true
unfolding of_string
is_set_of_string text = is_set_filter (spells text) predefined predefined_is_set

pub is_set_narrowed : (so_far item : List BaseType) → is_set so_far ≡ true → is_set (narrowed so_far item) ≡ true
unfolding narrowed
is_set_narrowed so_far item h = is_set_filter (holds item) so_far h

-- ---- few types: each operator is defined on few

within : (p : BaseType → Bool) (types : List BaseType) → length (filter p types) ≤ length types
within p types = rw (length-filter p types) (count_by-le-length p types)

abbrev bits : List BaseType
bits = base.Boolean ∷ base.Bit ∷ base.StdUlogic ∷ base.BitVector ∷ base.StdUlogicVector ∷ []

abbrev numbers : List BaseType
numbers = base.Integer ∷ base.Time ∷ []

few_logical : (ls rs : List BaseType) → length (filter (logical ls rs) predefined) ≤ 5
unfolding logical is_logical
few_logical ls rs = within (logical ls rs) bits

few_relation : length (filter relation predefined) ≤ 5
unfolding relation
few_relation = lit≤ tt

few_sum : (ls rs : List BaseType) → length (filter (sum ls rs) predefined) ≤ 5
unfolding sum is_numeric
few_sum ls rs = let few : length (filter (sum ls rs) numbers) ≤ 2 = within (sum ls rs) numbers in omega arith

few_concatenation : (ls rs : List BaseType) → length (filter (concatenation ls rs) predefined) ≤ 5
unfolding concatenation joined
few_concatenation ls rs = let few : length (filter (concatenation ls rs) arrays) ≤ 4 = within (concatenation ls rs) arrays in omega arith

few_product : (ls rs : List BaseType) → length (filter (product ls rs) predefined) ≤ 5
unfolding product
few_product ls rs = let few : length (filter (product ls rs) numbers) ≤ 2 = within (product ls rs) numbers in omega arith

few_quotient : (ls rs : List BaseType) → length (filter (quotient ls rs) predefined) ≤ 5
unfolding quotient
few_quotient ls rs = let few : length (filter (quotient ls rs) numbers) ≤ 2 = within (quotient ls rs) numbers in omega arith

few_integers : (ls rs : List BaseType) → length (filter (integers ls rs) predefined) ≤ 5
unfolding integers
few_integers ls rs = let few : length (filter (integers ls rs) numbers) ≤ 2 = within (integers ls rs) numbers in omega arith

pub few_results : (op : Operator) (ls rs : List BaseType) → length (results op ls rs) ≤ 5
unfolding results can_be
few_results operator.And ls rs = few_logical ls rs
few_results operator.Or ls rs = few_logical ls rs
few_results operator.Xor ls rs = few_logical ls rs
few_results operator.Xnor ls rs = few_logical ls rs
few_results operator.Nand ls rs = few_logical ls rs
few_results operator.Nor ls rs = few_logical ls rs
few_results operator.Equal ls rs = few_relation
few_results operator.NotEqual ls rs = few_relation
few_results operator.Less ls rs = few_relation
few_results operator.LessEqual ls rs = few_relation
few_results operator.Greater ls rs = few_relation
few_results operator.GreaterEqual ls rs = few_relation
few_results operator.Add ls rs = few_sum ls rs
few_results operator.Subtract ls rs = few_sum ls rs
few_results operator.Concatenate ls rs = few_concatenation ls rs
few_results operator.Multiply ls rs = few_product ls rs
few_results operator.Divide ls rs = few_quotient ls rs
few_results operator.Mod ls rs = few_integers ls rs
few_results operator.Rem ls rs = few_integers ls rs
few_results operator.Power ls rs = few_integers ls rs

few_signs : (types : List BaseType) → length (filter (λ t. is_numeric t && has types t) predefined) ≤ 5
unfolding is_numeric
few_signs types = let few : length (filter (λ t. is_numeric t && has types t) numbers) ≤ 2 = within (λ t. is_numeric t && has types t) numbers in omega arith

few_absolutes : (types : List BaseType) → length (filter (λ t. is_integer t && has types t) predefined) ≤ 5
unfolding is_integer
few_absolutes types = let few : length (filter (λ t. is_integer t && has types t) numbers) ≤ 2 = within (λ t. is_integer t && has types t) numbers in omega arith

few_negations : (types : List BaseType) → length (filter (λ t. is_logical t && has types t) predefined) ≤ 5
unfolding is_logical
few_negations types = within (λ t. is_logical t && has types t) bits

pub few_results_from : (op : Unary) (types : List BaseType) → length (results_from op types) ≤ 5
unfolding results_from can_be_from is_defined_on
few_results_from unary.Plus types = few_signs types
few_results_from unary.Minus types = few_signs types
few_results_from unary.Abs types = few_absolutes types
few_results_from unary.Not types = few_negations types
