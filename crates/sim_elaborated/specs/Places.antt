-- Numbers and spans of a design.
use Rattle.std.specs.Prelude.{ℕ, suc, ◌+◌, ◌≡◌, Bool, true, ◌&&◌, nat_lt, nat_eq, List, [], ◌∷◌, ◌++◌, replicate, ℤ, Some, slice_get}
use Rattle.std.specs.Option.{option_map_or}
use Rattle.vhpi_values.specs.Types.{Subtype, element_count}
use Rattle.vhpi_values.specs.Values.{Fits}
use Rattle.sim_elaborated.specs.declared.regions.Span.{Span}
use Rattle.sim_elaborated.specs.declared.objects.Net.{Net}
use Rattle.sim_elaborated.specs.declared.design.Design.{Design}

-- the number after the last of a span
abbrev pub end_of : Span → ℕ
end_of span = span.first + span.count

-- the spans follow one another from `start` on, and the last one ends at `end`
abbrev pub tile : ℕ → List Span → ℕ → Bool
tile start [] end = nat_eq start end
tile start (span ∷ spans) end = nat_eq span.first start && tile (end_of span) spans end

-- the owner of each member, where the n-th owner has as many members as the n-th span
abbrev pub owners_from : ℕ → List Span → List ℕ
owners_from owner [] = []
owners_from owner (span ∷ spans) = replicate span.count owner ++ owners_from (suc owner) spans

-- where each of several runs begins, if the first one begins at `start`
abbrev pub firsts_from : ℕ → List ℕ → List ℕ
firsts_from start [] = []
firsts_from start (count ∷ counts) = start ∷ firsts_from (start + count) counts

-- the numbers ascend strictly
abbrev pub ascends : List ℕ → Bool
ascends (a ∷ b ∷ rest) = nat_lt a b && ascends (b ∷ rest)
ascends _ = true

-- the spans have members, and each one begins behind the one before it
abbrev pub spans_rise_from : ℕ → List Span → ℕ → Bool
spans_rise_from start [] end = true
spans_rise_from start (span ∷ spans) end = nat_lt 0 span.count && nat_lt start (suc span.first) && nat_lt (end_of span) (suc end) && spans_rise_from (end_of span) spans end

-- the number of elements of a type of the design
abbrev pub elements_of_type : Design → ℕ → ℕ
elements_of_type d ty = option_map_or element_count (slice_get d.types ty) 0

abbrev pub elements_of_net : Design → Net → ℕ
elements_of_net d net = elements_of_type d net.ty

abbrev pub elements_at : Design → ℕ → ℕ
elements_at d n = option_map_or (elements_of_net d) (slice_get d.nets n) 0

-- the number of all elements of nets: those before the last net, and its own
abbrev pub last_end : Design → ℕ → List Net → ℕ
last_end d end [] = end
last_end d end (net ∷ nets) = last_end d (end + elements_of_net d net) nets

abbrev pub element_total : Design → ℕ
element_total d = last_end d 0 d.nets

-- the design has the type with this number, and the list is a value of it
pub record IsOf (d : Design) (ty : ℕ) (value : List ℤ) : Type 0 where
  pub type : Subtype
  pub is : slice_get d.types ty ≡ Some type
  pub fits : Fits type value
