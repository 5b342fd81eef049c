-- The attribute FOREIGN is a string where no rule is broken (IEEE Std 1076-2008, clause 20.2).
use Rattle.std.proofs.Common.{◌≡◌, ℕ, Bool, true, false, not, codes, ◌&&◌, Option, Some, None, List, [], ◌∷◌, ◌++◌, refl, ap, sym, subst, ◌∙◌}
use Rattle.vhdl_names_checker.specs.Around.{Around}
use Rattle.vhdl_names_checker.specs.Events.{Event}
use Rattle.vhdl_names_checker.specs.Faults.{faults}
use Rattle.vhdl_names_checker.specs.Telling.{expression, seen_here}
use Rattle.vhdl_names_laws.proofs.Empty.{and_right, empty_left, empty_right, from_not, none_broken}
use Rattle.vhdl_names_laws.proofs.PartValues.{no_typing}
use Rattle.vhdl_names_laws.specs.KnownParts.{known_declaration}
use Rattle.vhdl_names_laws.specs.Known.{known_value}
use Rattle.vhdl_names_laws.specs.Meanings.{HasMeanings}
use Rattle.vhdl_names_operators.proofs.Given.{has_of_string}
use Rattle.vhdl_names_operators.specs.Literals.{of_string, spells}
use Rattle.vhdl_names_operators.specs.Sets.{has}
use Rattle.vhdl_names_resolving.specs.Declarations.{attribute_resolved}
use Rattle.vhdl_names_resolving.specs.Values.{value_at}
use Rattle.vhdl_names_rules.specs.Units.{attribute_faults, foreign_value, is_foreign_string, is_foreign_value, is_right_attribute, is_word}
use Rattle.vhdl_names_scope.specs.Declarations.{Named}
use Rattle.vhdl_tokens.specs.Meaning.{span}
use Rattle.vhdl_tokens.specs.Values.{text_value}
use Rattle.vhdl_tokens.specs.declared.token.Kind.{Kind}
use Rattle.vhdl_tokens.specs.declared.token.Token.{Token}
use Rattle.vhdl_tree.specs.declared.declarations.AttributeSpecification.{AttributeSpecification}
use Rattle.vhdl_tree.specs.declared.expressions.Choice.{Choice}
use Rattle.vhdl_tree.specs.declared.expressions.Expr.{Expr, out-Expr}
use Rattle.vhdl_tree.specs.declared.expressions.Item.{Item}
use Rattle.vhdl_tree.specs.declared.expressions.Link.{Link}
use Rattle.vhdl_tree.specs.declared.expressions.Name.{Name}
use Rattle.vhdl_tree.specs.declared.expressions.Part.{Part}
use Rattle.vhdl_units.specs.declared.base_type.BaseType.{BaseType}
use Rattle.vhdl_units.specs.declared.entry.Entry.{Entry}
use Rattle.vhdl_names_typing.specs.Faults.{break_if, typing_of}
use Rattle.vhdl_names_typing.specs.Literals.{literal_told, spelled_told, spelled_types, string_types}
use Rattle.vhdl_names_typing.specs.Trees.{choice_step, expr_step, item_step, link_step, name_step, part_step, told}
use Rattle.vhdl_names_typing.specs.declared.told.ChoiceTold.{ChoiceTold}
use Rattle.vhdl_names_typing.specs.declared.told.ItemTold.{ItemTold}
use Rattle.vhdl_names_typing.specs.declared.told.LinkTold.{LinkTold}
use Rattle.vhdl_names_typing.specs.declared.told.NameTold.{NameTold}
use Rattle.vhdl_names_typing.specs.declared.told.PartTold.{PartTold}
use Rattle.vhdl_names_typing.specs.declared.told.Told.{Told}
use Rattle.vhdl_units.specs.declared.base_type.BaseType.TheVariants as base
use Rattle.vhdl_tokens.specs.declared.token.Kind.TheVariants as kind
use Rattle.vhdl_units.specs.declared.fault.Rule.TheVariants as rule
use Rattle.vhdl_tree.specs.declared.expressions.Choice.TheOpen.{Expr-F}
use Rattle.vhdl_tree.specs.declared.expressions.Choice.TheFolds.{fold_out-Expr}

string_has : (bytes : List ℕ) → has (of_string bytes) base.String ≡ true
unfolding spells
string_has bytes = has_of_string bytes base.String

foreign_has : (k : Kind) (bytes : List ℕ) (entries : List Entry) (v : Option (List ℕ)) → text_value bytes ≡ v → is_foreign_string k v ≡ true → has (spelled_types k bytes entries) base.String ≡ true
unfolding is_foreign_string spelled_types string_types
foreign_has kind.Text bytes entries (Some value) e h = rw e (string_has value)
foreign_has kind.Text bytes entries None e h = absurd cc
foreign_has _ bytes entries v e h = absurd cc

token_has : (text : List ℕ) (look : Token → List Entry) (token : Token) → is_foreign_string token.kind (text_value (span text token)) ≡ true → has (spelled_told text look token).types base.String ≡ true
unfolding spelled_told literal_told
token_has text look token h = foreign_has token.kind (span text token) (look token) (text_value (span text token)) refl h

module _ (text : List ℕ) (look : Token → List Entry) where
  token_told : (e : Expr) (token : Token) → out-Expr e ≡ Expr-F.Literal token → told text look e ≡ spelled_told text look token
  token_told e token is =
      rw is at (fold_out-Expr ChoiceTold Told PartTold ItemTold LinkTold NameTold choice_step (expr_step text look) (part_step text look) (item_step text look) (link_step text look) (name_step text look) e)

  layer_has : (e : Expr) (layer : Expr-F Choice Expr Part Item Link Name) → out-Expr e ≡ layer → foreign_value text layer ≡ true → has (told text look e).types base.String ≡ true
  unfolding foreign_value
  layer_has e (Expr-F.Literal token) is h = let P : Told → Type 0 = λ t. has t.types base.String ≡ true in subst P (sym (token_told e token is)) (token_has text look token h)
  layer_has e _ is h = absurd cc

  string_told : (e : Expr) → is_foreign_value text e ≡ true → has (told text look e).types base.String ≡ true
  unfolding is_foreign_value
  string_told e h = layer_has e (out-Expr e) refl h

right_value : (text word : List ℕ) (is_allowed : Bool) (s : AttributeSpecification) → is_right_attribute text word is_allowed s ≡ true → is_foreign_value text s.value ≡ true
unfolding is_right_attribute
right_value text word is_allowed s h =
    let value = is_foreign_value text s.value in
    let own = is_word text s.architecture word in
    and_right is_allowed value (and_right own (is_allowed && value) (and_right (is_word text s.attribute (codes "foreign")) (own && (is_allowed && value)) h))

module _ (text : List ℕ) (a : Around) (here : HasMeanings text (seen_here text a)) where
  value_known : (e : Expr) → (expression text a e).names ≡ [] → typing_of (expression text a e) ≡ [] → is_foreign_value text e ≡ true → known_value (value_at text a base.String e) ≡ true
  unfolding expression value_at
  value_known e names typing foreign = (here.expressions e names (no_typing (expression text a e) typing)).known base.String (string_told text (seen_here text a) e foreign)

  pub attribute_known : (file : List Named) (s : AttributeSpecification) → faults text file a (Event.Attributed s) ≡ [] → known_declaration (attribute_resolved text a s) ≡ true
  unfolding faults attribute_faults known_declaration attribute_resolved
  attribute_known file s h =
      let x = expression text a s.value in
      let right = is_right_attribute text a.architecture a.is_allowed s in
      let last = break_if (not right) x.names s.attribute.start rule.Foreign in
      let names : x.names ≡ [] = empty_left x.names (typing_of x ++ last) h in
      let rest : typing_of x ++ last ≡ [] = empty_right x.names (typing_of x ++ last) h in
      value_known s.value names (empty_left (typing_of x) last rest)
      (right_value text a.architecture a.is_allowed s (from_not right (none_broken (not right) x.names s.attribute.start rule.Foreign names (empty_right (typing_of x) last rest))))
