-- A name is one whatever follows it.
use Rattle.std.proofs.Common.{◌≡◌, ℕ, zero, suc, List, [], ◌∷◌, refl, ap, ◌∙◌}
use Rattle.vhdl_tokens.specs.declared.token.Token.{Token}
use Rattle.vhdl_tokens.specs.declared.token.Kind.TheVariants as kind
use Rattle.vhdl_tokens.specs.declared.token.Delimiter.TheVariants as delimiter
use Rattle.vhdl_tokens.specs.declared.reserved.Reserved.TheVariants as reserved
use Rattle.vhdl_tree.specs.declared.expressions.Expr.{Expr}
use Rattle.vhdl_tree.specs.Words.{Span, tok, id, word, mark}
use Rattle.vhdl_tree.specs.Expressions.{IsRelation, IsExpression, IsChoice, IsChoices, IsItem, IsPart, IsName, IsPrimary, IsFactor, IsTerm, IsSigned, IsSimple, SimpleWithin, NameOf}
use Rattle.vhdl_reader_expressions.proofs.FrontSteps.{one_before, ◌then◌}
use Rattle.vhdl_reader_expressions.proofs.Apart.{AllApart, many_apart, separated_apart, operations_apart, optional_apart}

module _ (S : List Token → Expr → List Token → Type 0) (simple : AllApart S) where
  relation_apart : AllApart (IsRelation S)
  relation_apart ts us _ (IsRelation.plain {a = a} r) = let l = simple ts us a r in (l.0, l.1, λ vs. (_, IsRelation.plain (l.2 vs).1))
  relation_apart ts us _ (IsRelation.compared {us = mid} {a = a} {b = b} {k = k} {x = x} r is q) = let l = simple ts (tok k x ∷ mid) a r in let m = simple mid us b q in
      (l.0 then (one_before (tok k x) then m.0), l.1 ∙ ap (λ zs. l.0.put (tok k x ∷ zs)) m.1, λ vs. (_, IsRelation.compared (l.2 (tok k x ∷ m.0.put vs)).1 is (m.2 vs).1))

  expression_apart : AllApart (IsExpression S)
  expression_apart ts us _ (IsExpression.chain {us = mid} {a = a} {links = links} o r rest) = let l = relation_apart ts mid a r in let m = operations_apart relation_apart mid us links rest in
      (l.0 then m.0, l.1 ∙ ap l.0.put m.1, λ vs. (_, IsExpression.chain o (l.2 (m.0.put vs)).1 (m.2 vs).1))
  expression_apart ts us _ (IsExpression.once {us = mid} {a = a} {b = b} {k = k} {x = x} r is q) = let l = relation_apart ts (tok k x ∷ mid) a r in let m = relation_apart mid us b q in
      (l.0 then (one_before (tok k x) then m.0), l.1 ∙ ap (λ zs. l.0.put (tok k x ∷ zs)) m.1, λ vs. (_, IsExpression.once (l.2 (tok k x ∷ m.0.put vs)).1 is (m.2 vs).1))

  choice_apart : AllApart (IsChoice S)
  choice_apart ts us _ (IsChoice.value {a = a} r) = let l = simple ts us a r in (l.0, l.1, λ vs. (_, IsChoice.value (l.2 vs).1))
  choice_apart ts us _ (IsChoice.range {us = mid} {a = a} {b = b} {k = k} {x = x} r is q) = let l = simple ts (tok k x ∷ mid) a r in let m = simple mid us b q in
      (l.0 then (one_before (tok k x) then m.0), l.1 ∙ ap (λ zs. l.0.put (tok k x ∷ zs)) m.1, λ vs. (_, IsChoice.range (l.2 (tok k x ∷ m.0.put vs)).1 is (m.2 vs).1))
  choice_apart ts us _ (IsChoice.others {x = x}) = (one_before (word reserved.Others x), refl, λ vs. (_, IsChoice.others))

  item_apart : AllApart (IsItem S)
  item_apart ts us _ (IsItem.positional {a = a} r) = let l = expression_apart ts us a r in (l.0, l.1, λ vs. (_, IsItem.positional (l.2 vs).1))
  item_apart ts us _ (IsItem.named {us = mid} {choices = choices} {x = x} {a = a} r q) =
      let l = separated_apart choice_apart ts (mark delimiter.Arrow x ∷ mid) choices r in let m = expression_apart mid us a q in
      (l.0 then (one_before (mark delimiter.Arrow x) then m.0), l.1 ∙ ap (λ zs. l.0.put (mark delimiter.Arrow x ∷ zs)) m.1, λ vs. (_, IsItem.named (l.2 (mark delimiter.Arrow x ∷ m.0.put vs)).1 (m.2 vs).1))

  part_apart : AllApart (IsPart S)
  part_apart ts us _ (IsPart.index {ts = inside} {x = x} {y = y} {a = a} r) = let l = expression_apart inside (mark delimiter.RightParen y ∷ us) a r in (
    one_before (mark delimiter.LeftParen x) then (l.0 then one_before (mark delimiter.RightParen y)),
    ap (λ zs. mark delimiter.LeftParen x ∷ zs) l.1,
    λ vs. (_, IsPart.index (l.2 (mark delimiter.RightParen y ∷ vs)).1),
  )
  part_apart ts us _ (IsPart.slice {ts = inside} {us = mid} {x = x} {y = y} {z = z} {a = a} {b = b} {k = k} r is q) =
      let l = simple inside (tok k z ∷ mid) a r in let m = simple mid (mark delimiter.RightParen y ∷ us) b q in (
        one_before (mark delimiter.LeftParen x) then (l.0 then (one_before (tok k z) then (m.0 then one_before (mark delimiter.RightParen y)))),
        ap (λ zs. mark delimiter.LeftParen x ∷ zs) (l.1 ∙ ap (λ zs. l.0.put (tok k z ∷ zs)) m.1),
        λ vs. (_, IsPart.slice (l.2 (tok k z ∷ m.0.put (mark delimiter.RightParen y ∷ vs))).1 is (m.2 (mark delimiter.RightParen y ∷ vs)).1),
      )
  part_apart ts us _ (IsPart.attribute {x = x} {y = y}) = (one_before (mark delimiter.Tick x) then one_before (id y), refl, λ vs. (_, IsPart.attribute))
  part_apart ts us _ (IsPart.range {x = x} {y = y}) = (one_before (mark delimiter.Tick x) then one_before (word reserved.Range y), refl, λ vs. (_, IsPart.range))

  pub inner_name_apart : AllApart (IsName S)
  inner_name_apart ts us _ (IsName.named {ts = mid} {x = x} {parts = parts} r) = let l = many_apart part_apart mid us parts r in
      (one_before (id x) then l.0, ap (λ zs. id x ∷ zs) l.1, λ vs. (_, IsName.named (l.2 vs).1))

  primary_apart : AllApart (IsPrimary S)
  primary_apart ts us _ (IsPrimary.name {n = n} r) = let l = inner_name_apart ts us n r in (l.0, l.1, λ vs. (_, IsPrimary.name (l.2 vs).1))
  primary_apart ts us _ (IsPrimary.number {ts = mid} {x = x} {unit = unit} r) = let l = optional_apart mid us unit r in
      (one_before (tok kind.Int x) then l.0, ap (λ zs. tok kind.Int x ∷ zs) l.1, λ vs. (_, IsPrimary.number (l.2 vs).1))
  primary_apart ts us _ (IsPrimary.literal {k = k} {x = x} is) = (one_before (tok k x), refl, λ vs. (_, IsPrimary.literal is))
  primary_apart ts us _ (IsPrimary.bracket {ts = inside} {x = x} {y = y} {items = items} r) = let l = separated_apart item_apart inside (mark delimiter.RightParen y ∷ us) items r in (
    one_before (mark delimiter.LeftParen x) then (l.0 then one_before (mark delimiter.RightParen y)),
    ap (λ zs. mark delimiter.LeftParen x ∷ zs) l.1,
    λ vs. (_, IsPrimary.bracket (l.2 (mark delimiter.RightParen y ∷ vs)).1),
  )

  factor_apart : AllApart (IsFactor S)
  factor_apart ts us _ (IsFactor.plain {a = a} r) = let l = primary_apart ts us a r in (l.0, l.1, λ vs. (_, IsFactor.plain (l.2 vs).1))
  factor_apart ts us _ (IsFactor.power {us = mid} {x = x} {a = a} {b = b} r q) = let l = primary_apart ts (mark delimiter.DoubleStar x ∷ mid) a r in let m = primary_apart mid us b q in (
    l.0 then (one_before (mark delimiter.DoubleStar x) then m.0),
    l.1 ∙ ap (λ zs. l.0.put (mark delimiter.DoubleStar x ∷ zs)) m.1,
    λ vs. (_, IsFactor.power (l.2 (mark delimiter.DoubleStar x ∷ m.0.put vs)).1 (m.2 vs).1),
  )
  factor_apart ts us _ (IsFactor.prefixed {ts = mid} {k = k} {x = x} {a = a} is r) = let l = primary_apart mid us a r in
      (one_before (tok k x) then l.0, ap (λ zs. tok k x ∷ zs) l.1, λ vs. (_, IsFactor.prefixed is (l.2 vs).1))

  term_apart : AllApart (IsTerm S)
  term_apart ts us _ (IsTerm.factors {us = mid} {a = a} {links = links} r rest) = let l = factor_apart ts mid a r in let m = operations_apart factor_apart mid us links rest in
      (l.0 then m.0, l.1 ∙ ap l.0.put m.1, λ vs. (_, IsTerm.factors (l.2 (m.0.put vs)).1 (m.2 vs).1))

  signed_apart : AllApart (IsSigned S)
  signed_apart ts us _ (IsSigned.plain {a = a} r) = let l = term_apart ts us a r in (l.0, l.1, λ vs. (_, IsSigned.plain (l.2 vs).1))
  signed_apart ts us _ (IsSigned.signed {ts = mid} {k = k} {x = x} {a = a} is r) = let l = term_apart mid us a r in
      (one_before (tok k x) then l.0, ap (λ zs. tok k x ∷ zs) l.1, λ vs. (_, IsSigned.signed is (l.2 vs).1))

  level_apart : AllApart (IsSimple S)
  level_apart ts us _ (IsSimple.terms {us = mid} {a = a} {links = links} r rest) = let l = signed_apart ts mid a r in let m = operations_apart term_apart mid us links rest in
      (l.0 then m.0, l.1 ∙ ap l.0.put m.1, λ vs. (_, IsSimple.terms (l.2 (m.0.put vs)).1 (m.2 vs).1))

simple_apart : (depth : ℕ) → AllApart (SimpleWithin depth)
simple_apart zero ts us a h = absurd h
simple_apart (suc depth) ts us a h = level_apart (SimpleWithin depth) (simple_apart depth) ts us a h

pub name_apart : AllApart NameOf
name_apart ts us n h = let l = inner_name_apart (SimpleWithin h.0) (simple_apart h.0) ts us n h.1 in (l.0, l.1, λ vs. ((l.2 vs).0, (h.0, (l.2 vs).1)))
