-- What a reader of concurrent statements and design units answers hangs on no token behind its place, and its bound suffices.
use Rattle.std.proofs.Common.{ℕ, zero, suc, ◌-◌, ◌≤◌, Bool, true, false, List, [], ◌∷◌, ◌++◌, Option, Some, None, arith}
use Rattle.vhdl_tokens.specs.declared.token.Token.{Token}
use Rattle.vhdl_tokens.specs.declared.reserved.Reserved.{Reserved}
use Rattle.vhdl_tokens.specs.declared.reserved.Reserved.TheVariants as reserved
use Rattle.vhdl_tree.specs.declared.expressions.Expr.{Expr}
use Rattle.vhdl_tree.specs.declared.expressions.Name.{Name}
use Rattle.vhdl_tree.specs.declared.units.Alternative.{Alternative}
use Rattle.vhdl_reader_expressions.proofs.Local.{Law, law_down, bind_law, pure_law, stop_law, spent_law, on_line_law, look_law, on_law, on_enter, word_law, token_law, optional_law}
use Rattle.vhdl_reader_expressions.proofs.Loops.{Moves, always, on_moves, stop_moves, look_moves, on_line_moves, bind_moves, behind_moves, word_moves, token_moves, many_law, preceded_law}
use Rattle.vhdl_reader_expressions.proofs.Bounded.{expression_bounded, name_from_bounded}
use Rattle.vhdl_reader_statements.proofs.Bounded.{delay_bounded, waveform_bounded, names_bounded, statements_bounded}
use Rattle.vhdl_reader_declarations.proofs.Laws.{identifiers_law, declarations_law, process_declarations_law, entity_law, entity_moves}
use Rattle.vhdl_reader.specs.Reading as spec
use Rattle.vhdl_reader.specs.Reading.{formal_of, sensitivity_names, sensitivity_all, sensitivity_list, sensitivity, process_head, process_end, process, conditions_from, assignment_to, assignment_from, assignment, actual, named_actual, association_after, association_from, open_association, association, associations, map_list, map_of, bracketed_identifier, architecture_name, instance_of, instance_in, instance_after, instance, process_or_assignment, body, labelled, named_after, named, unlabelled, concurrent, architecture_head, architecture_of, architecture_body, architecture_end, architecture, suffix, prefix, use_clause, library_clause, context, library_unit, unit, design_file}

module _ (bound : ℕ) where
  -- ---- processes

  sensitivity_names_law : Law bound (sensitivity_names bound)
  unfolding sensitivity_names
  sensitivity_names_law = bind_law (names_bounded bound) (λ all. bind_law (word_law _) (λ _. pure_law))

  sensitivity_all_law : Law bound (sensitivity_all bound)
  unfolding sensitivity_all
  sensitivity_all_law = bind_law (word_law _) (λ _. pure_law)

  sensitivity_list_law : Law bound (sensitivity_list bound)
  unfolding sensitivity_list
  sensitivity_list_law = on_law _ sensitivity_all_law sensitivity_names_law

  sensitivity_law : Law bound (sensitivity bound)
  unfolding sensitivity
  sensitivity_law = on_law _ sensitivity_list_law pure_law

  process_head_law : Law bound (process_head bound)
  unfolding process_head
  process_head_law = bind_law sensitivity_law (λ s. bind_law (optional_law _) (λ _. pure_law))

  process_end_law : Law bound (process_end bound)
  unfolding process_end
  process_end_law = bind_law (word_law _) (λ _. bind_law (optional_law _) (λ _. bind_law (word_law _) (λ _. bind_law (optional_law _) (λ name. bind_law (word_law _) (λ _. pure_law)))))

  process_law : (postponed : Bool) → Law bound (process bound postponed)
  unfolding process
  process_law postponed = bind_law process_head_law (λ s. bind_law (process_declarations_law bound) (λ ds. bind_law (word_law _) (λ _.
      bind_law (statements_bounded bound) (λ all. bind_law process_end_law (λ end_name. pure_law)))))

  -- ---- concurrent assignments

  conditions_law : (m n : ℕ) (found : List Alternative) → n ≤ m → n ≤ bound → Law n (conditions_from bound m found)
  unfolding conditions_from
  conditions_law zero n found turns fits = law_down (omega arith) spent_law
  conditions_law (suc m) n found turns fits = law_down {n = suc (n - 1)} (omega arith) (on_enter _
      (bind_law (law_down (omega arith) (expression_bounded bound)) (λ a. on_law _
      (bind_law (law_down (omega arith) (waveform_bounded bound)) (λ w. conditions_law m (n - 1) (found ++ record { condition = a; otherwise = w } ∷ []) (omega arith) (omega arith))) pure_law))
      pure_law)

  assignment_to_law : (postponed : Bool) (target : Name) → Law bound (assignment_to bound postponed target)
  unfolding assignment_to
  assignment_to_law postponed target = bind_law (word_law _) (λ _. bind_law (delay_bounded bound) (λ d. bind_law (waveform_bounded bound) (λ first.
      bind_law (conditions_law bound bound [] (omega arith) (omega arith)) (λ c. bind_law (word_law _) (λ _. pure_law)))))

  assignment_from_law : (postponed : Bool) (identifier : Token) → Law bound (assignment_from bound postponed identifier)
  unfolding assignment_from
  assignment_from_law postponed identifier = bind_law (name_from_bounded bound identifier) (λ target. assignment_to_law postponed target)

  assignment_law : (postponed : Bool) → Law bound (assignment bound postponed)
  unfolding assignment
  assignment_law postponed = bind_law (token_law _) (λ identifier. assignment_from_law postponed identifier)

  -- ---- instances

  actual_by_law : (b : Bool) → Law bound (spec.actual_by bound b)
  actual_by_law true = bind_law (token_law _) (λ t. pure_law)
  actual_by_law false = bind_law (expression_bounded bound) (λ a. pure_law)

  actual_law : Law bound (actual bound)
  unfolding actual
  actual_law = look_law spec.is_open (spec.actual_by bound) actual_by_law

  named_actual_law : (formal : Token) → Law bound (named_actual bound formal)
  unfolding named_actual
  named_actual_law formal = bind_law actual_law (λ a. pure_law)

  associated_law : (formal : Option Token) (a : Expr) → Law bound (spec.associated bound formal a)
  associated_law (Some formal) a = on_law _ (named_actual_law formal) pure_law
  associated_law None a = pure_law

  association_after_law : (is_named : Bool) (a : Expr) → Law bound (association_after bound is_named a)
  unfolding association_after
  association_after_law is_named a = associated_law (formal_of is_named a) a

  association_from_law : (is_named : Bool) → Law bound (association_from bound is_named)
  unfolding association_from
  association_from_law is_named = bind_law (expression_bounded bound) (λ a. association_after_law is_named a)

  open_association_law : Law bound (open_association bound)
  unfolding open_association
  open_association_law = bind_law (token_law _) (λ t. pure_law)

  association_by_law : (b : Bool) → Law bound (spec.association_by bound b)
  association_by_law true = open_association_law
  association_by_law false = look_law spec.is_identifier (association_from bound) association_from_law

  association_law : Law bound (association bound)
  unfolding association
  association_law = look_law spec.is_open (spec.association_by bound) association_by_law

  associations_law : Law bound (associations bound)
  unfolding associations
  associations_law = bind_law association_law (λ first. preceded_law bound _ (first ∷ []) (omega arith) association_law)

  map_list_law : Law bound (map_list bound)
  unfolding map_list
  map_list_law = bind_law (word_law _) (λ _. bind_law (word_law _) (λ _. bind_law associations_law (λ all. bind_law (word_law _) (λ _. pure_law))))

  map_of_law : (w : Reserved) → Law bound (map_of bound w)
  unfolding map_of
  map_of_law w = on_law _ map_list_law pure_law

  bracketed_identifier_law : Law bound (bracketed_identifier bound)
  unfolding bracketed_identifier
  bracketed_identifier_law = bind_law (token_law _) (λ t. bind_law (word_law _) (λ _. pure_law))

  architecture_name_law : Law bound (architecture_name bound)
  unfolding architecture_name
  architecture_name_law = on_law _ bracketed_identifier_law pure_law

  instance_of_law : (library : Option Token) (name : Token) → Law bound (instance_of bound library name)
  unfolding instance_of
  instance_of_law library name = bind_law architecture_name_law (λ a. bind_law (map_of_law reserved.Generic) (λ gs. bind_law (map_of_law reserved.Port) (λ ps.
      bind_law (word_law _) (λ _. pure_law))))

  instance_in_law : (library : Token) → Law bound (instance_in bound library)
  unfolding instance_in
  instance_in_law library = bind_law (token_law _) (λ name. instance_of_law (Some library) name)

  instance_after_law : (first : Token) → Law bound (instance_after bound first)
  unfolding instance_after
  instance_after_law first = on_law _ (instance_in_law first) (instance_of_law None first)

  instance_law : Law bound (instance bound)
  unfolding instance
  instance_law = bind_law (token_law _) (λ first. instance_after_law first)

  -- ---- concurrent statements

  process_or_assignment_law : (postponed : Bool) → Law bound (process_or_assignment bound postponed)
  unfolding process_or_assignment
  process_or_assignment_law postponed = on_law _ (process_law postponed) (assignment_law postponed)

  body_law : Law bound (body bound)
  unfolding body
  body_law = on_law _ (process_or_assignment_law true) (process_or_assignment_law false)

  labelled_law : Law bound (labelled bound)
  unfolding labelled
  labelled_law = on_law _ instance_law body_law

  named_after_law : (line : ℕ) (identifier : Token) → Law bound (named_after bound line identifier)
  unfolding named_after
  named_after_law line identifier = on_law _ (bind_law labelled_law (λ b. pure_law)) (bind_law (assignment_from_law false identifier) (λ b. pure_law))

  named_law : (line : ℕ) → Law bound (named bound line)
  unfolding named
  named_law line = bind_law (token_law _) (λ identifier. named_after_law line identifier)

  unlabelled_law : (line : ℕ) → Law bound (unlabelled bound line)
  unfolding unlabelled
  unlabelled_law line = bind_law body_law (λ b. pure_law)

  concurrent_by_law : (line : ℕ) (b : Bool) → Law bound (spec.concurrent_by bound line b)
  concurrent_by_law line true = named_law line
  concurrent_by_law line false = unlabelled_law line

  concurrent_law : Law bound (concurrent bound)
  unfolding concurrent
  concurrent_law = on_line_law (spec.concurrent_at bound) (λ line. look_law spec.is_identifier (spec.concurrent_by bound line) (concurrent_by_law line))

  -- ---- each takes a token

  assignment_moves : (postponed : Bool) → Moves bound spec.begins_concurrent (assignment bound postponed)
  unfolding assignment
  assignment_moves postponed = bind_moves (token_moves _) (λ identifier. assignment_from_law postponed identifier)

  body_moves : Moves bound spec.begins_concurrent (body bound)
  unfolding body process_or_assignment
  body_moves = on_moves _ (process_or_assignment_law true) (on_moves _ (process_law false) (assignment_moves false))

  concurrent_by_moves : (line : ℕ) (b : Bool) → Moves bound spec.begins_concurrent (spec.concurrent_by bound line b)
  unfolding named unlabelled
  concurrent_by_moves line true = bind_moves (token_moves _) (λ identifier. named_after_law line identifier)
  concurrent_by_moves line false = bind_moves body_moves (λ b. pure_law)

  concurrent_moves : Moves bound spec.begins_concurrent (concurrent bound)
  unfolding concurrent
  concurrent_moves = on_line_moves (spec.concurrent_at bound) (λ line. look_moves spec.is_identifier (spec.concurrent_by bound line) (concurrent_by_moves line))

  -- ---- architectures

  architecture_head_law : Law bound (architecture_head bound)
  unfolding architecture_head
  architecture_head_law = bind_law (word_law _) (λ _. token_law _)

  architecture_head_moves : Moves bound always (architecture_head bound)
  unfolding architecture_head
  architecture_head_moves = bind_moves (word_moves _) (λ _. token_law _)

  architecture_of_law : Law bound (architecture_of bound)
  unfolding architecture_of
  architecture_of_law = bind_law (word_law _) (λ _. bind_law (token_law _) (λ name. bind_law (word_law _) (λ _. pure_law)))

  architecture_body_law : Law bound (architecture_body bound)
  unfolding architecture_body
  architecture_body_law = bind_law (word_law _) (λ _. many_law bound [] (omega arith) concurrent_law concurrent_moves)

  architecture_end_law : Law bound (architecture_end bound)
  unfolding architecture_end
  architecture_end_law = bind_law (word_law _) (λ _. bind_law (optional_law _) (λ _. bind_law (optional_law _) (λ name. bind_law (word_law _) (λ _. pure_law))))

  architecture_law : Law bound (architecture bound)
  unfolding architecture
  architecture_law = on_line_law (spec.architecture_at bound) (λ line. bind_law architecture_head_law (λ name. bind_law architecture_of_law (λ e. bind_law (declarations_law bound) (λ ds.
      bind_law architecture_body_law (λ all. bind_law architecture_end_law (λ end_name. pure_law))))))

  architecture_moves : Moves bound always (architecture bound)
  unfolding architecture
  architecture_moves = on_line_moves (spec.architecture_at bound) (λ line. bind_moves architecture_head_moves (λ name. bind_law architecture_of_law (λ e. bind_law (declarations_law bound) (λ ds.
      bind_law architecture_body_law (λ all. bind_law architecture_end_law (λ end_name. pure_law))))))

  -- ---- context clauses

  suffix_by_law : (b : Bool) → Law bound (spec.suffix_by bound b)
  suffix_by_law true = token_law _
  suffix_by_law false = token_law _

  suffix_law : Law bound (suffix bound)
  unfolding suffix
  suffix_law = look_law spec.is_all (spec.suffix_by bound) suffix_by_law

  prefix_law : Law bound (prefix bound)
  unfolding prefix
  prefix_law = bind_law (token_law _) (λ t. bind_law (word_law _) (λ _. pure_law))

  use_clause_law : Law bound (use_clause bound)
  unfolding use_clause
  use_clause_law = bind_law prefix_law (λ l. bind_law prefix_law (λ p. bind_law suffix_law (λ s. bind_law (word_law _) (λ _. pure_law))))

  library_clause_law : Law bound (library_clause bound)
  unfolding library_clause
  library_clause_law = bind_law (identifiers_law bound) (λ names. bind_law (word_law _) (λ _. pure_law))

  context_law : Law bound (context bound)
  unfolding context
  context_law = on_law _ library_clause_law (on_law _ use_clause_law stop_law)

  context_moves : Moves bound spec.begins_context (context bound)
  unfolding context
  context_moves = on_moves _ library_clause_law (on_moves _ use_clause_law stop_moves)

  contexts_law : Law bound (spec.contexts bound [])
  contexts_law = many_law bound [] (omega arith) context_law context_moves

  -- ---- design units

  library_unit_by_law : (b : Bool) → Law bound (spec.library_unit_by bound b)
  library_unit_by_law true = bind_law (entity_law bound) (λ e. pure_law)
  library_unit_by_law false = bind_law architecture_law (λ a. pure_law)

  library_unit_law : Law bound (library_unit bound)
  unfolding library_unit
  library_unit_law = look_law spec.is_entity (spec.library_unit_by bound) library_unit_by_law

  library_unit_by_moves : (b : Bool) → Moves bound always (spec.library_unit_by bound b)
  library_unit_by_moves true = bind_moves (entity_moves bound) (λ e. pure_law)
  library_unit_by_moves false = bind_moves architecture_moves (λ a. pure_law)

  library_unit_moves : Moves bound always (library_unit bound)
  unfolding library_unit
  library_unit_moves = look_moves spec.is_entity (spec.library_unit_by bound) library_unit_by_moves

  unit_law : Law bound (unit bound)
  unfolding unit
  unit_law = bind_law contexts_law (λ c. bind_law library_unit_law (λ u. pure_law))

  unit_moves : Moves bound spec.begins_unit (unit bound)
  unfolding unit
  unit_moves = behind_moves contexts_law (λ c. bind_moves library_unit_moves (λ u. pure_law))

  pub design_file_law : Law bound (design_file bound)
  unfolding design_file
  design_file_law = bind_law unit_law (λ first. bind_law (many_law bound (first ∷ []) (omega arith) unit_law unit_moves) (λ all. pure_law))
