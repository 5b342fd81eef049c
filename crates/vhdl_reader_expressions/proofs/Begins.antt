-- What expressions and names begin with.
use Rattle.std.proofs.Common.{◌≡◌, Bool, true, false, Option, Some, None, List, refl}
use Rattle.vhdl_tokens.specs.declared.token.Kind.{Kind}
use Rattle.vhdl_tokens.specs.declared.token.Kind.TheVariants as kind
use Rattle.vhdl_tokens.specs.declared.token.Token.{Token}
use Rattle.vhdl_tokens.specs.declared.token.Delimiter.TheVariants as delimiter
use Rattle.vhdl_tokens.specs.declared.reserved.Reserved.TheVariants as reserved
use Rattle.vhdl_tree.specs.declared.expressions.Unary.{Unary}
use Rattle.vhdl_tree.specs.declared.expressions.Expr.{Expr}
use Rattle.vhdl_tree.specs.declared.expressions.Name.{Name}
use Rattle.vhdl_tree.specs.Words.{kind_of}
use Rattle.vhdl_tree.specs.Expressions.{sign, prefix, is_literal, IsName, IsPrimary, IsFactor, IsTerm, IsSigned, IsSimple}
use Rattle.vhdl_reader_expressions.specs.Steps.{sees}
use Rattle.vhdl_reader_expressions.proofs.NextToken.{not_seen}
use Rattle.vhdl_reader_expressions.specs.declared.tables.Start.TheVariants as a_start
use Rattle.vhdl_reader_expressions.specs.Reading.{start_of, is_others, begins_name}

abbrev pub begins_primary : Option Kind → Bool
begins_primary (Some kind.Identifier) = true
begins_primary (Some kind.Int) = true
begins_primary (Some kind.Char) = true
begins_primary (Some kind.Text) = true
begins_primary (Some kind.Bits) = true
begins_primary (Some (kind.Delimiter delimiter.LeftParen)) = true
begins_primary _ = false

abbrev pub begins_factor : Option Kind → Bool
begins_factor (Some (kind.Word reserved.Abs)) = true
begins_factor (Some (kind.Word reserved.Not)) = true
begins_factor k = begins_primary k

-- an expression begins with one of these
abbrev pub begins_expression : Option Kind → Bool
begins_expression (Some (kind.Delimiter delimiter.Plus)) = true
begins_expression (Some (kind.Delimiter delimiter.Minus)) = true
begins_expression k = begins_factor k

-- a choice, which may be the others
abbrev pub begins_choice : Option Kind → Bool
begins_choice (Some (kind.Word reserved.Others)) = true
begins_choice k = begins_expression k

-- a token that begins none of these is not seen where one begins
pub unseen : (begins : Option Kind → Bool) (k : Kind) (ts : List Token) → begins (Some k) ≡ false → begins (kind_of ts) ≡ true → sees k ts ≡ false
unseen begins k ts never h = not_seen (λ j. begins j ≡ true) k ts (λ e. cc) h

-- ---- tables

factor_of_primary : (k : Option Kind) → begins_primary k ≡ true → begins_factor k ≡ true
factor_of_primary (Some (kind.Word reserved.Abs)) e = refl
factor_of_primary (Some (kind.Word reserved.Not)) e = refl
factor_of_primary k e = e

factor_of_prefix : (k : Option Kind) (o : Unary) → prefix k ≡ Some o → begins_factor k ≡ true
factor_of_prefix (Some (kind.Word reserved.Abs)) o e = refl
factor_of_prefix (Some (kind.Word reserved.Not)) o e = refl
factor_of_prefix _ o e = absurd cc

expression_of_factor : (k : Option Kind) → begins_factor k ≡ true → begins_expression k ≡ true
expression_of_factor (Some (kind.Delimiter delimiter.Plus)) e = refl
expression_of_factor (Some (kind.Delimiter delimiter.Minus)) e = refl
expression_of_factor k e = e

expression_of_sign : (k : Option Kind) (o : Unary) → sign k ≡ Some o → begins_expression k ≡ true
expression_of_sign (Some (kind.Delimiter delimiter.Plus)) o e = refl
expression_of_sign (Some (kind.Delimiter delimiter.Minus)) o e = refl
expression_of_sign _ o e = absurd cc

pub choice_of_expression : (k : Option Kind) → begins_expression k ≡ true → begins_choice k ≡ true
choice_of_expression (Some (kind.Word reserved.Others)) e = refl
choice_of_expression k e = e

primary_of_literal : (k : Kind) → is_literal (Some k) ≡ true → begins_primary (Some k) ≡ true
primary_of_literal kind.Char e = refl
primary_of_literal kind.Text e = refl
primary_of_literal kind.Bits e = refl
primary_of_literal _ e = absurd cc

pub spelled : (k : Kind) → is_literal (Some k) ≡ true → start_of (Some k) ≡ a_start.Spelled
spelled kind.Char e = refl
spelled kind.Text e = refl
spelled kind.Bits e = refl
spelled _ e = absurd cc

pub no_prefix : (k : Option Kind) → begins_primary k ≡ true → prefix k ≡ None
no_prefix (Some (kind.Word reserved.Abs)) e = absurd cc
no_prefix (Some (kind.Word reserved.Not)) e = absurd cc
no_prefix _ e = refl

pub no_sign : (k : Option Kind) → begins_factor k ≡ true → sign k ≡ None
no_sign (Some (kind.Delimiter delimiter.Plus)) e = absurd cc
no_sign (Some (kind.Delimiter delimiter.Minus)) e = absurd cc
no_sign _ e = refl

pub not_others : (k : Option Kind) → begins_expression k ≡ true → is_others k ≡ false
not_others (Some (kind.Word reserved.Others)) e = absurd cc
not_others _ e = refl

-- ---- productions, over any simple expressions one bracket further in

module _ (S : List Token → Expr → List Token → Type 0) where
  pub name_begins : {ts us : List Token} {n : Name} → IsName S ts n us → begins_name (kind_of ts) ≡ true
  name_begins (IsName.named parts) = refl

  pub primary_begins : {ts us : List Token} {a : Expr} → IsPrimary S ts a us → begins_primary (kind_of ts) ≡ true
  primary_begins (IsPrimary.name (IsName.named parts)) = refl
  primary_begins (IsPrimary.number unit) = refl
  primary_begins (IsPrimary.literal {k = k} is) = primary_of_literal k is
  primary_begins (IsPrimary.bracket items) = refl

  pub factor_begins : {ts us : List Token} {a : Expr} → IsFactor S ts a us → begins_factor (kind_of ts) ≡ true
  factor_begins {ts = ts} (IsFactor.plain r) = factor_of_primary (kind_of ts) (primary_begins r)
  factor_begins {ts = ts} (IsFactor.power r s) = factor_of_primary (kind_of ts) (primary_begins r)
  factor_begins (IsFactor.prefixed {k = k} is r) = factor_of_prefix (Some k) _ is

  pub term_begins : {ts us : List Token} {a : Expr} → IsTerm S ts a us → begins_factor (kind_of ts) ≡ true
  term_begins (IsTerm.factors r rest) = factor_begins r

  signed_begins : {ts us : List Token} {a : Expr} → IsSigned S ts a us → begins_expression (kind_of ts) ≡ true
  signed_begins {ts = ts} (IsSigned.plain r) = expression_of_factor (kind_of ts) (term_begins r)
  signed_begins (IsSigned.signed {k = k} is r) = expression_of_sign (Some k) _ is

  pub simple_begins : {ts us : List Token} {a : Expr} → IsSimple S ts a us → begins_expression (kind_of ts) ≡ true
  simple_begins (IsSimple.terms r rest) = signed_begins r
