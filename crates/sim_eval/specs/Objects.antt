-- The objects that an expression reads.
use Rattle.std.specs.Prelude.{ℕ, List, ℤ, Option, None, option_map, option_and_then, slice_get}
use Rattle.vhpi_values.specs.Types.{Subtype}
use Rattle.vhpi_values.specs.declared.types.IndexRange.{IndexRange}
use Rattle.sim_elaborated.specs.declared.objects.Generic.{Generic}
use Rattle.sim_elaborated.specs.declared.objects.Constant.{Constant}
use Rattle.sim_elaborated.specs.declared.objects.Net.{Net}
use Rattle.sim_elaborated.specs.declared.objects.Variable.{Variable}
use Rattle.sim_elaborated.specs.declared.states.ElementState.{ElementState}
use Rattle.sim_elaborated.specs.declared.expressions.Object.{Object}
use Rattle.sim_elaborated.specs.declared.expressions.Object.TheVariants as object

-- the types of the design, the generics, constants and nets of an instance, the elements of all nets, the variables of a process with their values, the loop parameters, and the time
pub record Objects : Type 0 where
  pub types : List Subtype
  pub generics : List Generic
  pub constants : List Constant
  pub nets : List Net
  pub elements : List ElementState
  pub variables : List Variable
  pub values : List (List ℤ)
  pub parameters : List ℤ
  pub time : ℕ

-- the number of an object's type
abbrev pub type_number : Objects → Object → Option ℕ
type_number env (object.Generic n) = option_map (λ g. g.ty) (slice_get env.generics n)
type_number env (object.Constant n) = option_map (λ c. c.ty) (slice_get env.constants n)
type_number env (object.Net n) = option_map (λ net. net.ty) (slice_get env.nets n)
type_number env (object.Variable n) = option_map (λ v. v.ty) (slice_get env.variables n)
type_number env (object.Parameter n) = None

-- the index range of a type, where it is an array type
abbrev pub range_of_type : List Subtype → ℕ → Option IndexRange
range_of_type types ty = option_and_then (λ t. t.index) (slice_get types ty)

-- the index range of an object, where it is an array
abbrev pub range_of : Objects → Object → Option IndexRange
range_of env o = option_and_then (range_of_type env.types) (type_number env o)
