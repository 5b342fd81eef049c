use Rattle.std.proofs.Common.{◌≡◌, List, sym, subst, ◌∙◌}
use Rattle.vhdl_tokens.specs.declared.token.Token.{Token}
use Rattle.vhdl_tokens.specs.Text.{Tokens}
use Rattle.sim_session.proofs.Refused.{is_error, is_found, read_as, tokens_refused, syntax_refused, design_refused}
use Rattle.sim_session.proofs.reading.read_text.Goals as goal

pub returns-in_err-tokens-clause-read : goal.returns-in_err-tokens-clause-read
returns-in_err-tokens-clause-read c = read_as c.from_residual.result _ c.args.text.now c.from_residual.ensures.1
    (tokens_refused c.args.text.now c.in_err-tokens.field-0.0 c.in_err-tokens.ensures.refusal (λ list h. is_error _ _ (c.in_err-tokens.ensures.only_list list h)))

pub returns-in_err-tree-clause-read : goal.returns-in_err-tree-clause-read
returns-in_err-tree-clause-read c =
    let spelled : Tokens c.args.text.now c.as_slice.result.now = subst (Tokens c.args.text.now) (sym c.as_slice.ensures.value) c.in_ok-tokens.ensures.tokens in
    let alone : (other : List Token) → Tokens c.args.text.now other → other ≡ c.as_slice.result.now = λ other h. sym (c.as_slice.ensures.value ∙ is_found _ _ (c.in_ok-tokens.ensures.only_list other h)) in
    read_as c.from_residual-in_err-tree.result _ c.args.text.now c.from_residual-in_err-tree.ensures.1
    (syntax_refused c.args.text.now c.as_slice.result.now spelled alone c.in_err-tree.field-0.0 c.in_err-tree.ensures.judged (λ tree s well. is_error _ _ (c.in_err-tree.ensures.only tree s well)))

pub returns-in_err-design-clause-read : goal.returns-in_err-design-clause-read
returns-in_err-design-clause-read c =
    let spelled : Tokens c.args.text.now c.as_slice.result.now = subst (Tokens c.args.text.now) (sym c.as_slice.ensures.value) c.in_ok-tokens.ensures.tokens in
    let alone : (other : List Token) → Tokens c.args.text.now other → other ≡ c.as_slice.result.now = λ other h. sym (c.as_slice.ensures.value ∙ is_found _ _ (c.in_ok-tokens.ensures.only_list other h)) in
    read_as c.from_residual-in_err-design.result _ c.args.text.now c.from_residual-in_err-design.ensures.1
    (design_refused c.args.text.now c.as_slice.result.now spelled alone c.in_ok-tree.tree c.in_ok-tree.ensures.judged (λ other s well. sym (is_found _ _ (c.in_ok-tree.ensures.only other s well)))
    c.in_err-design.field-0.0 c.in_err-design.ensures.read)
