-- Productions that are such whatever follows them.
use Rattle.std.proofs.Common.{◌≡◌, Option, List, [], ◌∷◌, ◌++◌, refl, sym, ap, ◌∙◌}
use Rattle.vhdl_tokens.specs.declared.token.Kind.{Kind}
use Rattle.vhdl_tokens.specs.declared.token.Token.{Token}
use Rattle.vhdl_tree.specs.Words.{Span, tok}
use Rattle.vhdl_tree.specs.Lists.{Many, Preceded, Separated, Operations, IsOptional}
use Rattle.vhdl_reader_expressions.proofs.FrontSteps.{Front, none_before, one_before, ◌then◌, Holds, Some_of}

-- tokens that are some production, whatever follows them
abbrev pub Apart : {A : Type 0} → (List Token → A → List Token → Type 0) → List Token → List Token → Type 0
Apart R ts us = (f : Front) × (ts ≡ f.put us) × Holds (Some_of R) f

-- each tree of a production stands apart
abbrev pub AllApart : {A : Type 0} → (List Token → A → List Token → Type 0) → Type 0
AllApart {A = A} R = (ts us : List Token) (a : A) → R ts a us → Apart R ts us

pub many_apart : {A : Type 0} {R : List Token → A → List Token → Type 0} → AllApart R → AllApart (Many R)
many_apart each ts us _ Many.none = (none_before, refl, λ vs. (_, Many.none))
many_apart each ts us _ (Many.more {us = mid} {a = a} {all = all} r rest) = let l = each ts mid a r in let m = many_apart each mid us all rest in
    (l.0 then m.0, l.1 ∙ ap l.0.put m.1, λ vs. (_, Many.more (l.2 (m.0.put vs)).1 (m.2 vs).1))

pub preceded_apart : {A : Type 0} {w : Kind} {R : List Token → A → List Token → Type 0} → AllApart R → AllApart (Preceded w R)
preceded_apart each ts us _ Preceded.none = (none_before, refl, λ vs. (_, Preceded.none))
preceded_apart {w = w} each ts us _ (Preceded.more {us = ms} {vs = mid} {x = x} {a = a} {all = all} r rest) = let l = each ms mid a r in let m = preceded_apart each mid us all rest in
    (one_before (tok w x) then (l.0 then m.0), ap (λ zs. tok w x ∷ zs) (l.1 ∙ ap l.0.put m.1), λ vs. (_, Preceded.more (l.2 (m.0.put vs)).1 (m.2 vs).1))

pub separated_apart : {A : Type 0} {w : Kind} {R : List Token → A → List Token → Type 0} → AllApart R → AllApart (Separated w R)
separated_apart each ts us _ (Separated.several {us = mid} {a = a} {all = all} r rest) = let l = each ts mid a r in let m = preceded_apart each mid us all rest in
    (l.0 then m.0, l.1 ∙ ap l.0.put m.1, λ vs. (_, Separated.several (l.2 (m.0.put vs)).1 (m.2 vs).1))

pub operations_apart : {O A B : Type 0} {table : Option Kind → Option O} {make : O → A → B} {R : List Token → A → List Token → Type 0} → AllApart R → AllApart (Operations table make R)
operations_apart each ts us _ Operations.none = (none_before, refl, λ vs. (_, Operations.none))
operations_apart each ts us _ (Operations.more {us = ms} {vs = mid} {k = k} {x = x} {a = a} {all = all} is r rest) = let l = each ms mid a r in let m = operations_apart each mid us all rest in
    (one_before (tok k x) then (l.0 then m.0), ap (λ zs. tok k x ∷ zs) (l.1 ∙ ap l.0.put m.1), λ vs. (_, Operations.more is (l.2 (m.0.put vs)).1 (m.2 vs).1))

pub optional_apart : {w : Kind} → AllApart (IsOptional w)
optional_apart ts us _ IsOptional.absent = (none_before, refl, λ vs. (_, IsOptional.absent))
optional_apart {w = w} ts us _ (IsOptional.present {x = x}) = (one_before (tok w x), refl, λ vs. (_, IsOptional.present))
