-- A name that denotes nothing breaks a rule.
use Rattle.std.proofs.Common.{◌≡◌, ℕ, Bool, true, false, Option, Some, None, List, [], ◌∷◌, ◌++◌, map, cond, refl, ap, sym, subst, ◌∙◌}
use Rattle.vhdl_names_laws.proofs.Empty.{empty_left, empty_right}
use Rattle.vhdl_tokens.specs.declared.token.Token.{Token}
use Rattle.vhdl_tree.specs.declared.expressions.Name.{Name, out-Name}
use Rattle.vhdl_units.specs.declared.base_type.BaseType.{BaseType}
use Rattle.vhdl_units.specs.declared.entry.Entry.{Entry}
use Rattle.vhdl_units.specs.declared.entry.Function.{Function}
use Rattle.vhdl_units.specs.declared.fault.Fault.{Fault}
use Rattle.vhdl_names_typing.specs.Attributes.{attribute_of, has_bounds, is_array_type, is_signal}
use Rattle.vhdl_names_typing.specs.Names.{attributed, attributed_as, becomes_value, begun, bound_of, called, change_of, declared, denoted, edge_of, element_named, element_of, extended, extended_by, finished, has_no_such, indexed, indexed_as, last_value_of, misfits, name_told, object_attribute, object_attributed, of_type, range_of, slice_named, sliced, sliced_as, takes, type_attributed, undeclared, with_argument, with_denoted, with_names, with_typing, wrong_kind}
use Rattle.vhdl_names_typing.specs.Trees.{choice_step, expr_step, item_step, link_step, name_step, part_step, told_name, told_part}
use Rattle.vhdl_names_typing.specs.declared.told.Attribute.{Attribute}
use Rattle.vhdl_names_typing.specs.declared.told.ChoiceTold.{ChoiceTold}
use Rattle.vhdl_names_typing.specs.declared.told.Denotes.{Denotes}
use Rattle.vhdl_names_typing.specs.declared.told.ItemTold.{ItemTold}
use Rattle.vhdl_names_typing.specs.declared.told.LinkTold.{LinkTold}
use Rattle.vhdl_names_typing.specs.declared.told.NameTold.{NameTold}
use Rattle.vhdl_names_typing.specs.declared.told.ObjectName.{ObjectName}
use Rattle.vhdl_names_typing.specs.declared.told.PartTold.{PartTold}
use Rattle.vhdl_names_typing.specs.declared.told.Told.{Told}
use Rattle.vhdl_names_typing.specs.declared.told.TypeAttribute.{TypeAttribute}
use Rattle.vhdl_names_typing.specs.declared.told.Attribute.TheVariants as attribute
use Rattle.vhdl_names_typing.specs.declared.told.Denotes.TheVariants as denotes
use Rattle.vhdl_units.specs.declared.entry.Entry.TheVariants as entry
use Rattle.vhdl_units.specs.declared.entry.Function.TheVariants as function
use Rattle.vhdl_names_typing.specs.declared.told.PartTold.TheVariants as part_told
use Rattle.vhdl_names_typing.specs.declared.told.TypeAttribute.TheVariants as type_attribute
use Rattle.vhdl_units.specs.declared.values.ObjectAttribute.{ObjectAttribute}
use Rattle.vhdl_units.specs.declared.values.ObjectAttribute.TheVariants as of_object
use Rattle.vhdl_tree.specs.declared.expressions.Choice.TheFolds.{fold_out-Name}

abbrev pub NeverUnknown : NameTold → Type 0
NeverUnknown n = n.denotes ≡ denotes.Unknown → n.names ≡ [] → ⊥

-- ---- what breaks a rule

broken : (n : NameTold) (xs : List Fault) (f : Fault) → n.names ≡ xs ++ f ∷ [] → NeverUnknown n
broken n xs f e = λ _ names. let r : f ∷ [] ≡ [] = empty_right xs (f ∷ []) (rw (sym e) names) in absurd cc

wrong_never : (n : NameTold) → NeverUnknown (wrong_kind n)
unfolding wrong_kind
wrong_never n = broken (wrong_kind n) n.names _ refl

none_never : (place : ℕ) (n : NameTold) → NeverUnknown (has_no_such place n)
unfolding has_no_such
none_never place n = broken (has_no_such place n) n.names _ refl

-- ---- what breaks none denotes something

either_never : (b : Bool) (x y : NameTold) → NeverUnknown x → NeverUnknown y → NeverUnknown (cond b x y)
either_never true x y p q = p
either_never false x y p q = q

value_never : (types : List BaseType) (n : NameTold) → NeverUnknown (becomes_value types n)
unfolding becomes_value
value_never types n = λ is names. absurd cc

element_never : (o : ObjectName) (t : Option BaseType) (told : Told) (n : NameTold) → NeverUnknown (element_named o t told n)
unfolding element_named with_typing with_denoted misfits
element_never o (Some e) told n = λ is names. absurd cc
element_never o None told n = λ is names. absurd cc

called_never : (f : Function) (told : Told) (n : NameTold) → NeverUnknown (called f told n)
unfolding called edge_of
called_never function.RisingEdge told n = value_never _ _
called_never function.FallingEdge told n = value_never _ _
called_never function.ToX01 told n = value_never _ _
called_never function.Now told n = wrong_never n

type_never : (a : TypeAttribute) (t : BaseType) (told : Told) (n : NameTold) → NeverUnknown (of_type a t told n)
unfolding of_type
type_never type_attribute.Pos t told n = value_never _ _
type_never type_attribute.Val t told n = value_never _ _

misfit_never : (n : NameTold) → NeverUnknown (misfits denotes.Value n)
unfolding misfits
misfit_never n = λ is names. absurd cc

indexed_never : (x : Denotes) (told : Told) (n : NameTold) → NeverUnknown n → NeverUnknown (indexed_as x told n)
unfolding indexed_as
indexed_never denotes.Unknown told n never = never
indexed_never (denotes.Object o) told n never = element_never o (element_of o.base) told n
indexed_never denotes.Value told n never = misfit_never n
indexed_never (denotes.Function f) told n never = called_never f told n
indexed_never (denotes.TypeAttribute a t) told n never = type_never a t told n
indexed_never _ told n never = wrong_never n

slice_never : (o : ObjectName) (is : Bool) (left right : Told) (n : NameTold) → NeverUnknown (slice_named o is left right n)
unfolding slice_named with_typing with_denoted misfits
slice_never o true left right n = λ is names. absurd cc
slice_never o false left right n = λ is names. absurd cc

sliced_never : (x : Denotes) (left right : Told) (n : NameTold) → NeverUnknown n → NeverUnknown (sliced_as x left right n)
unfolding sliced_as
sliced_never denotes.Unknown left right n never = never
sliced_never (denotes.Object o) left right n never = slice_never o (is_array_type o.base) left right n
sliced_never denotes.Value left right n never = misfit_never n
sliced_never denotes.Now left right n never = misfit_never n
sliced_never _ left right n never = wrong_never n

bound_never : (n : NameTold) → NeverUnknown (bound_of n)
unfolding bound_of
bound_never n = λ is names. absurd cc

range_never : (n : NameTold) → NeverUnknown (range_of n)
unfolding range_of
range_never n = λ is names. absurd cc

change_never : (o : ObjectName) (place : ℕ) (n : NameTold) → NeverUnknown (change_of o place n)
unfolding change_of
change_never o place n = either_never (is_signal o) _ _ (value_never _ n) (none_never place n)

last_never : (o : ObjectName) (place : ℕ) (n : NameTold) → NeverUnknown (last_value_of o place n)
unfolding last_value_of
last_never o place n = either_never _ _ _ (value_never _ n) (none_never place n)

own_never : (a : ObjectAttribute) (o : ObjectName) (place : ℕ) (n : NameTold) → NeverUnknown (object_attribute a o place n)
unfolding object_attribute
own_never of_object.Event o place n = change_never o place n
own_never of_object.Active o place n = change_never o place n
own_never of_object.LastValue o place n = last_never o place n
own_never _ o place n = either_never (has_bounds o) _ _ (bound_never n) (none_never place n)

object_never : (a : Attribute) (o : ObjectName) (place : ℕ) (n : NameTold) → NeverUnknown (object_attributed a o place n)
unfolding object_attributed
object_never (attribute.Object a) o place n = own_never a o place n
object_never attribute.Range o place n = either_never (has_bounds o) _ _ (range_never n) (none_never place n)
object_never (attribute.Type a) o place n = none_never place n

argument_given : (a : TypeAttribute) (t : BaseType) (n : NameTold) → NeverUnknown (with_denoted (denotes.TypeAttribute a t) n)
unfolding with_denoted
argument_given a t n = λ is names. absurd cc

argument_never : (a : TypeAttribute) (t : BaseType) (place : ℕ) (n : NameTold) → NeverUnknown (with_argument a t place n)
unfolding with_argument
argument_never a t place n = either_never _ _ _ (argument_given a t n) (none_never place n)

subtype_never : (a : Attribute) (t : BaseType) (place : ℕ) (n : NameTold) → NeverUnknown (type_attributed a t place n)
unfolding type_attributed
subtype_never (attribute.Type a) t place n = argument_never a t place n
subtype_never _ t place n = none_never place n

attributed_never : (x : Denotes) (a : Option Attribute) (place : ℕ) (n : NameTold) → NeverUnknown n → NeverUnknown (attributed_as x a place n)
unfolding attributed_as
attributed_never denotes.Unknown a place n never = never
attributed_never (denotes.Object o) (Some a) place n never = object_never a o place n
attributed_never (denotes.Object o) None place n never = none_never place n
attributed_never (denotes.Subtype mark) (Some a) place n never = subtype_never a mark.base place n
attributed_never (denotes.Subtype mark) None place n never = none_never place n
attributed_never _ a place n never = none_never place n

-- ---- whole names

takes_never : (n : NameTold) (told : Told) → NeverUnknown n → NeverUnknown (takes n told)
unfolding takes
takes_never n told never = λ is names. never is (empty_left n.names told.names names)

extended_never : (text : List ℕ) (n : NameTold) (p : PartTold) → NeverUnknown n → NeverUnknown (extended text n p)
unfolding extended indexed sliced attributed
extended_never text n (part_told.Index told) never = indexed_never n.denotes told (takes n told) (takes_never n told never)
extended_never text n (part_told.Slice left right) never =
    sliced_never n.denotes left right (takes (takes n left) right) (takes_never (takes n left) right (takes_never n left never))
extended_never text n (part_told.Attribute word) never = attributed_never n.denotes (attribute_of text word) word.start n never

all_never : (text : List ℕ) (n : NameTold) (parts : List PartTold) → NeverUnknown n → NeverUnknown (extended_by text n parts)
unfolding extended_by
all_never text n [] never = never
all_never text n (p ∷ parts) never = all_never text (extended text n p) parts (extended_never text n p never)

denoted_never : (e : Entry) → denoted e ≡ denotes.Unknown → ⊥
unfolding denoted
denoted_never (entry.Subtype mark) is = absurd cc
denoted_never (entry.Object o) is = absurd cc
denoted_never (entry.Literal t position) is = absurd cc
denoted_never (entry.Function function.Now) is = absurd cc
denoted_never (entry.Function function.RisingEdge) is = absurd cc
denoted_never (entry.Function function.FallingEdge) is = absurd cc
denoted_never (entry.Function function.ToX01) is = absurd cc
denoted_never (entry.Unit u) is = absurd cc
denoted_never (entry.Label n) is = absurd cc

begun_never : (place : ℕ) (entries : List Entry) → NeverUnknown (begun place entries)
unfolding begun undeclared declared
begun_never place [] = λ is names. absurd cc
begun_never place (e ∷ entries) = λ is names. denoted_never e is

told_never : (text : List ℕ) (place : ℕ) (entries : List Entry) (parts : List PartTold) → NeverUnknown (name_told text place entries parts)
unfolding name_told finished
told_never text place entries parts = all_never text (begun place entries) parts (begun_never place entries)

module _ (text : List ℕ) (look : Token → List Entry) where
  name_is : (n : Name) → told_name text look n ≡ name_told text (out-Name n).identifier.start (look (out-Name n).identifier) (map (told_part text look) (out-Name n).parts)
  name_is n = fold_out-Name ChoiceTold Told PartTold ItemTold LinkTold NameTold choice_step (expr_step text look) (part_step text look) (item_step text look) (link_step text look) (name_step text look) n

  pub never_unknown : (n : Name) → NeverUnknown (told_name text look n)
  never_unknown n = subst NeverUnknown (sym (name_is n)) (told_never text (out-Name n).identifier.start (look (out-Name n).identifier) (map (told_part text look) (out-Name n).parts))
