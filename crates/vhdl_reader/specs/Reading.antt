-- The readers of concurrent statements and design units as functions on tokens, beside which the code is proved.
use Rattle.std.specs.Prelude.{ℕ, zero, suc, Bool, true, false, Option, Some, None, List, [], ◌∷◌, ◌++◌, if◌then◌else◌}
use Rattle.vhdl_tokens.specs.declared.token.Kind.{Kind}
use Rattle.vhdl_tokens.specs.declared.token.Kind.TheVariants as kind
use Rattle.vhdl_tokens.specs.declared.token.Token.{Token}
use Rattle.vhdl_tokens.specs.declared.token.Delimiter.TheVariants as delimiter
use Rattle.vhdl_tokens.specs.declared.reserved.Reserved.{Reserved}
use Rattle.vhdl_tokens.specs.declared.reserved.Reserved.TheVariants as reserved
use Rattle.vhdl_tree.specs.declared.expressions.Expr.{Expr, out-Expr}
use Rattle.vhdl_tree.specs.declared.expressions.Choice.TheOpen.{Expr-F}
use Rattle.vhdl_tree.specs.declared.expressions.Name.{Name, out-Name}
use Rattle.vhdl_tree.specs.declared.expressions.Part.{Part}
use Rattle.vhdl_tree.specs.declared.units.Sensitivity.{Sensitivity}
use Rattle.vhdl_tree.specs.declared.units.Sensitivity.TheVariants as a_sensitivity
use Rattle.vhdl_tree.specs.declared.units.Alternative.{Alternative}
use Rattle.vhdl_tree.specs.declared.units.Actual.{Actual}
use Rattle.vhdl_tree.specs.declared.units.Actual.TheVariants as an_actual
use Rattle.vhdl_tree.specs.declared.units.Association.{Association}
use Rattle.vhdl_tree.specs.declared.units.ConcurrentBody.{ConcurrentBody}
use Rattle.vhdl_tree.specs.declared.units.ConcurrentBody.TheVariants as a_body
use Rattle.vhdl_tree.specs.declared.units.Concurrent.{Concurrent}
use Rattle.vhdl_tree.specs.declared.units.Architecture.{Architecture}
use Rattle.vhdl_tree.specs.declared.units.ContextClause.{ContextClause}
use Rattle.vhdl_tree.specs.declared.units.ContextClause.TheVariants as a_clause
use Rattle.vhdl_tree.specs.declared.units.LibraryUnit.{LibraryUnit}
use Rattle.vhdl_tree.specs.declared.units.LibraryUnit.TheVariants as a_unit
use Rattle.vhdl_tree.specs.declared.units.DesignUnit.{DesignUnit}
use Rattle.vhdl_tree.specs.declared.units.DesignFile.{DesignFile}
use Rattle.vhdl_reader_expressions.specs.Steps.{Parser, ◌>>=◌, ◌>>◌, pure, stop, spent, on, look, on_line, word, token, optional, many_from, preceded_from}
use Rattle.vhdl_reader_expressions.specs.Reading.{Layer, expression_within, name_from_within}
use Rattle.vhdl_reader_statements.specs.Reading.{delay_within, waveform_within, names_within, statements_within}
use Rattle.vhdl_reader_declarations.specs.Reading.{identifiers, declarations, process_declarations, entity}
use Rattle.vhdl_reader.specs.declared.assignments.Conditions.{Conditions}

-- ---- what the next token is

abbrev pub is_identifier : Option Kind → Bool
is_identifier (Some kind.Identifier) = true
is_identifier _ = false

abbrev pub is_open : Option Kind → Bool
is_open (Some (kind.Word reserved.Open)) = true
is_open _ = false

abbrev pub is_all : Option Kind → Bool
is_all (Some (kind.Word reserved.All)) = true
is_all _ = false

abbrev pub is_entity : Option Kind → Bool
is_entity (Some (kind.Word reserved.Entity)) = true
is_entity _ = false

-- a concurrent statement begins here
abbrev pub begins_concurrent : Option Kind → Bool
begins_concurrent (Some kind.Identifier) = true
begins_concurrent (Some (kind.Word reserved.Postponed)) = true
begins_concurrent (Some (kind.Word reserved.Process)) = true
begins_concurrent _ = false

-- an item of a context clause begins here
abbrev pub begins_context : Option Kind → Bool
begins_context (Some (kind.Word reserved.Library)) = true
begins_context (Some (kind.Word reserved.Use)) = true
begins_context _ = false

-- a design unit begins here
abbrev pub begins_unit : Option Kind → Bool
begins_unit (Some (kind.Word reserved.Library)) = true
begins_unit (Some (kind.Word reserved.Use)) = true
begins_unit (Some (kind.Word reserved.Entity)) = true
begins_unit (Some (kind.Word reserved.Architecture)) = true
begins_unit _ = false

-- ---- a bare identifier

abbrev pub alone : Token → List Part → Option Token
alone t [] = Some t
alone t (p ∷ parts) = None

abbrev pub bare : Layer → Option Token
bare (Expr-F.Name n) = alone (out-Name n).identifier (out-Name n).parts
bare _ = None

-- the formal that an expression may be, where its first token is an identifier
unfoldable pub formal_of : Bool → Expr → Option Token
formal_of named a = if named then bare (out-Expr a) else None

abbrev pub positional : Expr → Association
positional a = record { formal = None; actual = an_actual.Expr a }

-- ---- the readers, with a bound on the turns of their loops and on what lower readers need

module _ (bound : ℕ) where
  -- ---- processes

  unfoldable pub sensitivity_names : Parser Sensitivity
  sensitivity_names = do all ← names_within bound; word (kind.Delimiter delimiter.RightParen); pure (a_sensitivity.Names all)

  unfoldable pub sensitivity_all : Parser Sensitivity
  sensitivity_all = do word (kind.Delimiter delimiter.RightParen); pure a_sensitivity.All

  -- what follows the bracket behind the word process
  unfoldable pub sensitivity_list : Parser Sensitivity
  sensitivity_list = on (kind.Word reserved.All) sensitivity_all sensitivity_names

  unfoldable pub sensitivity : Parser Sensitivity
  sensitivity = on (kind.Delimiter delimiter.LeftParen) sensitivity_list (pure a_sensitivity.Unlisted)

  -- a sensitivity list, and the word is where it stands
  unfoldable pub process_head : Parser Sensitivity
  process_head = do s ← sensitivity; optional (kind.Word reserved.Is); pure s

  unfoldable pub process_end : Parser (Option Token)
  process_end = do word (kind.Word reserved.End); optional (kind.Word reserved.Postponed); word (kind.Word reserved.Process); name ← optional kind.Identifier; word (kind.Delimiter delimiter.Semicolon); pure name

  -- what follows the word process
  unfoldable pub process : Bool → Parser ConcurrentBody
  process postponed = do
    s ← process_head
    ds ← process_declarations bound
    word (kind.Word reserved.Begin)
    all ← statements_within bound
    end_name ← process_end
    pure (a_body.Process (record { postponed = postponed; sensitivity = s; declarations = ds; statements = all; end_name = end_name }))

  -- ---- concurrent assignments

  -- conditions behind these alternatives
  unfoldable pub conditions_from : ℕ → List Alternative → Parser Conditions
  conditions_from zero found = spent
  conditions_from (suc n) found = on (kind.Word reserved.When) (do a ← expression_within bound; on (kind.Word reserved.Else) (do w ← waveform_within bound; conditions_from n (found ++ record { condition = a; otherwise = w } ∷ [])) (pure (record { alternatives = found; condition = Some a }))) (pure (record { alternatives = found; condition = None }))

  abbrev pub conditions : List Alternative → Parser Conditions
  conditions found = conditions_from bound found

  -- what follows the target of an assignment
  unfoldable pub assignment_to : Bool → Name → Parser ConcurrentBody
  assignment_to postponed target = do
    word (kind.Delimiter delimiter.LessEqual)
    d ← delay_within bound
    first ← waveform_within bound
    c ← conditions []
    word (kind.Delimiter delimiter.Semicolon)
    pure (a_body.Assignment (record { postponed = postponed; target = target; delay = d; waveform = first; alternatives = c.alternatives; condition = c.condition }))

  -- an assignment whose target begins with this identifier
  unfoldable pub assignment_from : Bool → Token → Parser ConcurrentBody
  assignment_from postponed identifier = do target ← name_from_within bound identifier; assignment_to postponed target

  unfoldable pub assignment : Bool → Parser ConcurrentBody
  assignment postponed = do identifier ← token kind.Identifier; assignment_from postponed identifier

  -- ---- instances

  abbrev pub actual_by : Bool → Parser Actual
  actual_by b = if b then (do t ← token (kind.Word reserved.Open); pure (an_actual.Open t)) else (do a ← expression_within bound; pure (an_actual.Expr a))

  unfoldable pub actual : Parser Actual
  actual = look is_open actual_by

  -- what follows a formal
  unfoldable pub named_actual : Token → Parser Association
  named_actual formal = do a ← actual; pure (record { formal = Some formal; actual = a })

  abbrev pub associated : Option Token → Expr → Parser Association
  associated (Some formal) a = on (kind.Delimiter delimiter.Arrow) (named_actual formal) (pure (positional a))
  associated None a = pure (positional a)

  -- an association that begins with this expression, and by an identifier where named says so
  unfoldable pub association_after : Bool → Expr → Parser Association
  association_after named a = associated (formal_of named a) a

  unfoldable pub association_from : Bool → Parser Association
  association_from named = do a ← expression_within bound; association_after named a

  unfoldable pub open_association : Parser Association
  open_association = do t ← token (kind.Word reserved.Open); pure (record { formal = None; actual = an_actual.Open t })

  abbrev pub association_by : Bool → Parser Association
  association_by b = if b then open_association else look is_identifier association_from

  unfoldable pub association : Parser Association
  association = look is_open association_by

  abbrev pub more_associations : List Association → Parser (List Association)
  more_associations found = preceded_from bound (kind.Delimiter delimiter.Comma) association found

  unfoldable pub associations : Parser (List Association)
  associations = do first ← association; more_associations (first ∷ [])

  -- what follows the word generic or port
  unfoldable pub map_list : Parser (List Association)
  map_list = do word (kind.Word reserved.Map); word (kind.Delimiter delimiter.LeftParen); all ← associations; word (kind.Delimiter delimiter.RightParen); pure all

  unfoldable pub map_of : Reserved → Parser (List Association)
  map_of w = on (kind.Word w) map_list (pure [])

  unfoldable pub bracketed_identifier : Parser (Option Token)
  bracketed_identifier = do t ← token kind.Identifier; word (kind.Delimiter delimiter.RightParen); pure (Some t)

  unfoldable pub architecture_name : Parser (Option Token)
  architecture_name = on (kind.Delimiter delimiter.LeftParen) bracketed_identifier (pure None)

  -- an instance of this entity of this library
  unfoldable pub instance_of : Option Token → Token → Parser ConcurrentBody
  instance_of library name = do
    a ← architecture_name
    gs ← map_of reserved.Generic
    ps ← map_of reserved.Port
    word (kind.Delimiter delimiter.Semicolon)
    pure (a_body.Instance (record { library = library; entity = name; architecture = a; generics = gs; ports = ps }))

  -- an instance of an entity of this library
  unfoldable pub instance_in : Token → Parser ConcurrentBody
  instance_in library = do name ← token kind.Identifier; instance_of (Some library) name

  -- an instance whose library or entity this is
  unfoldable pub instance_after : Token → Parser ConcurrentBody
  instance_after first = on (kind.Delimiter delimiter.Dot) (instance_in first) (instance_of None first)

  -- what follows the word entity
  unfoldable pub instance : Parser ConcurrentBody
  instance = do first ← token kind.Identifier; instance_after first

  -- ---- concurrent statements

  unfoldable pub process_or_assignment : Bool → Parser ConcurrentBody
  process_or_assignment postponed = on (kind.Word reserved.Process) (process postponed) (assignment postponed)

  unfoldable pub body : Parser ConcurrentBody
  body = on (kind.Word reserved.Postponed) (process_or_assignment true) (process_or_assignment false)

  -- what may follow a label
  unfoldable pub labelled : Parser ConcurrentBody
  labelled = on (kind.Word reserved.Entity) instance body

  -- a statement whose first token, at this line, is this identifier: its label, or where its target begins
  unfoldable pub named_after : ℕ → Token → Parser Concurrent
  named_after line identifier = on (kind.Delimiter delimiter.Colon)
      (do b ← labelled; pure (record { line = line; label = Some identifier; body = b }))
      (do b ← assignment_from false identifier; pure (record { line = line; label = None; body = b }))

  unfoldable pub named : ℕ → Parser Concurrent
  named line = do identifier ← token kind.Identifier; named_after line identifier

  unfoldable pub unlabelled : ℕ → Parser Concurrent
  unlabelled line = do b ← body; pure (record { line = line; label = None; body = b })

  abbrev pub concurrent_by : ℕ → Bool → Parser Concurrent
  concurrent_by line b = if b then named line else unlabelled line

  abbrev pub concurrent_at : ℕ → Parser Concurrent
  concurrent_at line = look is_identifier (concurrent_by line)

  unfoldable pub concurrent : Parser Concurrent
  concurrent = on_line concurrent_at

  abbrev pub concurrents : List Concurrent → Parser (List Concurrent)
  concurrents found = many_from bound begins_concurrent concurrent found

  -- ---- design units

  -- the name of an architecture, from the word architecture on
  unfoldable pub architecture_head : Parser Token
  architecture_head = do word (kind.Word reserved.Architecture); token kind.Identifier

  -- the entity of an architecture, from the word of up to the word is
  unfoldable pub architecture_of : Parser Token
  architecture_of = do word (kind.Word reserved.Of); name ← token kind.Identifier; word (kind.Word reserved.Is); pure name

  -- the statements of an architecture, from the word begin on
  unfoldable pub architecture_body : Parser (List Concurrent)
  architecture_body = do word (kind.Word reserved.Begin); concurrents []

  unfoldable pub architecture_end : Parser (Option Token)
  architecture_end = do word (kind.Word reserved.End); optional (kind.Word reserved.Architecture); name ← optional kind.Identifier; word (kind.Delimiter delimiter.Semicolon); pure name

  abbrev pub architecture_at : ℕ → Parser Architecture
  architecture_at line = do
    name ← architecture_head
    e ← architecture_of
    ds ← declarations bound
    all ← architecture_body
    end_name ← architecture_end
    pure (record { line = line; name = name; entity = e; declarations = ds; statements = all; end_name = end_name })

  unfoldable pub architecture : Parser Architecture
  architecture = on_line architecture_at

  abbrev pub suffix_by : Bool → Parser Token
  suffix_by b = if b then token (kind.Word reserved.All) else token kind.Identifier

  unfoldable pub suffix : Parser Token
  suffix = look is_all suffix_by

  -- an identifier, and the dot behind it
  unfoldable pub prefix : Parser Token
  prefix = do t ← token kind.Identifier; word (kind.Delimiter delimiter.Dot); pure t

  -- what follows the word use
  unfoldable pub use_clause : Parser ContextClause
  use_clause = do l ← prefix; p ← prefix; s ← suffix; word (kind.Delimiter delimiter.Semicolon); pure (a_clause.Use (record { library = l; «package» = p; suffix = s }))

  -- what follows the word library
  unfoldable pub library_clause : Parser ContextClause
  library_clause = do names ← identifiers bound; word (kind.Delimiter delimiter.Semicolon); pure (a_clause.Library names)

  unfoldable pub context : Parser ContextClause
  context = on (kind.Word reserved.Library) library_clause (on (kind.Word reserved.Use) use_clause stop)

  abbrev pub contexts : List ContextClause → Parser (List ContextClause)
  contexts found = many_from bound begins_context context found

  abbrev pub library_unit_by : Bool → Parser LibraryUnit
  library_unit_by b = if b then (do e ← entity bound; pure (a_unit.Entity e)) else (do a ← architecture; pure (a_unit.Architecture a))

  unfoldable pub library_unit : Parser LibraryUnit
  library_unit = look is_entity library_unit_by

  unfoldable pub unit : Parser DesignUnit
  unit = do c ← contexts []; u ← library_unit; pure (record { context = c; unit = u })

  abbrev pub units : List DesignUnit → Parser (List DesignUnit)
  units found = many_from bound begins_unit unit found

  unfoldable pub design_file : Parser DesignFile
  design_file = do first ← unit; all ← units (first ∷ []); pure (record { units = all })
