-- What may follow the parts of concurrent statements, and what they begin with.
use Rattle.std.proofs.Common.{◌≡◌, ℕ, ◌<◌, Bool, true, false, Option, Some, List, ◌∷◌, refl, subst, arith}
use Rattle.vhdl_tokens.specs.declared.token.Kind.{Kind}
use Rattle.vhdl_tokens.specs.declared.token.Kind.TheVariants as kind
use Rattle.vhdl_tokens.specs.declared.token.Token.{Token}
use Rattle.vhdl_tokens.specs.declared.token.Delimiter.TheVariants as delimiter
use Rattle.vhdl_tokens.specs.declared.reserved.Reserved.{Reserved}
use Rattle.vhdl_tokens.specs.declared.reserved.Reserved.TheVariants as reserved
use Rattle.vhdl_tree.specs.declared.expressions.Expr.{Expr}
use Rattle.vhdl_tree.specs.declared.expressions.Name.{Name}
use Rattle.vhdl_tree.specs.declared.expressions.Part.{Part}
use Rattle.vhdl_tree.specs.declared.declarations.Declaration.{Declaration}
use Rattle.vhdl_tree.specs.declared.units.Alternative.{Alternative}
use Rattle.vhdl_tree.specs.declared.units.Association.{Association}
use Rattle.vhdl_tree.specs.Words.{Span, id, word, kind_of}
use Rattle.vhdl_tree.specs.Lists.{Many, Separated, Perhaps, IsOptional}
use Rattle.vhdl_tree.specs.Expressions.{SimpleWithin, Expression, NameOf, IsPart, IsName}
use Rattle.vhdl_tree.specs.Declarations.{IsVariable, IsType, IsSubtypeDeclaration, IsConstant, IsProcessDeclaration}
use Rattle.vhdl_tree.specs.Statements.{IsNames}
use Rattle.vhdl_tree.specs.Units.{IsAlternative, IsArchitectureName, IsMap}
use Rattle.vhdl_reader_expressions.specs.Kinds.{same}
use Rattle.vhdl_reader_expressions.specs.Steps.{sees}
use Rattle.vhdl_reader_expressions.proofs.Complete.{many_ends}
use Rattle.vhdl_reader_expressions.specs.Reading.{begins_name, begins_part}
use Rattle.vhdl_reader_expressions.proofs.Begins.{begins_expression}
use Rattle.vhdl_reader_expressions.proofs.Follow.{rank}
use Rattle.vhdl_reader_expressions.proofs.Reached.{name_starts}
use Rattle.vhdl_reader_statements.proofs.Follow.{Unlike, unlike_unseen, EndsWaveform, perhaps_ends}
use Rattle.vhdl_reader_declarations.specs.Reading.{begins_process_declaration}
use Rattle.vhdl_reader.specs.Reading.{is_open}

-- behind the conditions of an assignment
pub record EndsConditions (k : Option Kind) : Type 0 where
  pub waveform : EndsWaveform k
  pub unconditional : Unlike (kind.Word reserved.When) k
  pub other : Unlike (kind.Word reserved.Else) k

-- behind an association
pub record EndsAssociation (k : Option Kind) : Type 0 where
  pub below : rank k < 1
  pub positional : Unlike (kind.Delimiter delimiter.Arrow) k

-- ---- what is behind a part that may be absent

pub optional_unseen : (k : Kind) {j : Kind} {ts us : List Token} {t : Option Token} → IsOptional j ts t us → sees k us ≡ false → same j k ≡ false → sees k ts ≡ false
optional_unseen k IsOptional.absent last differ = last
optional_unseen k IsOptional.present last differ = differ

pub map_unseen : (k : Kind) {w : Reserved} {ts us : List Token} {all : List Association} → IsMap w ts all us → sees k us ≡ false → same (kind.Word w) k ≡ false → sees k ts ≡ false
map_unseen k IsMap.absent last differ = last
map_unseen k (IsMap.present r) last differ = differ

pub architecture_unseen : (k : Kind) {ts us : List Token} {a : Option Token} → IsArchitectureName ts a us → sees k us ≡ false → same (kind.Delimiter delimiter.LeftParen) k ≡ false → sees k ts ≡ false
architecture_unseen k IsArchitectureName.absent last differ = last
architecture_unseen k IsArchitectureName.present last differ = differ

when_ends : EndsWaveform (Some (kind.Word reserved.When))
when_ends = record { element = record { below = omega arith; undelayed = λ e. cc }; last = λ e. cc }

pub conditions_ends : {ts us vs : List Token} {all : List Alternative} {condition : Option Expr} → Many IsAlternative ts all us → Perhaps (kind.Word reserved.When) Expression us condition vs
    → EndsWaveform (kind_of vs) → EndsWaveform (kind_of ts)
conditions_ends Many.none last h = perhaps_ends EndsWaveform when_ends last h
conditions_ends (Many.more (IsAlternative.otherwise r w) rest) last h = when_ends

-- ---- the declarations of a process, and the word begin

abbrev pub opens_process : Option Kind → Bool
opens_process (Some (kind.Word reserved.Begin)) = true
opens_process k = begins_process_declaration k

declaration_starts : (ts us : List Token) (d : Declaration) → IsProcessDeclaration ts d us → begins_process_declaration (kind_of ts) ≡ true
declaration_starts ts us d (IsProcessDeclaration.variable (IsVariable.declared r)) = refl
declaration_starts ts us d (IsProcessDeclaration.constant (IsConstant.declared list r a)) = refl
declaration_starts ts us d (IsProcessDeclaration.type_is (IsType.enumeration list)) = refl
declaration_starts ts us d (IsProcessDeclaration.subtype_is (IsSubtypeDeclaration.declared r)) = refl

declaration_opens : (k : Option Kind) → begins_process_declaration k ≡ true → opens_process k ≡ true
declaration_opens (Some (kind.Word reserved.Begin)) e = refl
declaration_opens k e = e

pub declarations_open : {ts us : List Token} {y : Span} {all : List Declaration} → Many IsProcessDeclaration ts all (word reserved.Begin y ∷ us) → opens_process (kind_of ts) ≡ true
declarations_open list = many_ends {E = λ k. opens_process k ≡ true} begins_process_declaration declaration_starts declaration_opens list refl

-- ---- names

pub names_start : {ts us : List Token} {all : List Name} → IsNames ts all us → begins_name (kind_of ts) ≡ true
names_start (Separated.several r rest) = name_starts r

-- a part of a name is no colon
part_begins : (S : List Token → Expr → List Token → Type 0) (ts us : List Token) (a : Part) → IsPart S ts a us → begins_part (kind_of ts) ≡ true
part_begins S ts us a (IsPart.index r) = refl
part_begins S ts us a (IsPart.slice r is s) = refl
part_begins S ts us a IsPart.attribute = refl
part_begins S ts us a IsPart.range = refl

part_unlike : (k : Option Kind) → begins_part k ≡ true → Unlike (kind.Delimiter delimiter.Colon) k
part_unlike k h e = let g : begins_part (Some (kind.Delimiter delimiter.Colon)) ≡ true = subst (λ j. begins_part j ≡ true) e h in absurd cc

-- a target is an identifier, behind which no colon stands
pub record Named (ts : List Token) : Type 0 where
  pub span : Span
  pub rest : List Token
  pub is : ts ≡ id span ∷ rest
  pub next : sees (kind.Delimiter delimiter.Colon) rest ≡ false

name_by : (depth : ℕ) {ts us : List Token} {n : Name} → IsName (SimpleWithin depth) ts n us → Unlike (kind.Delimiter delimiter.Colon) (kind_of us) → Named ts
name_by depth (IsName.named {ts = ts} {x = x} list) h = record {
  span = x;
  rest = ts;
  is = refl;
  next = unlike_unseen _ ts (many_ends begins_part (part_begins (SimpleWithin depth)) part_unlike list h);
}

pub name_names : {ts us : List Token} {n : Name} → NameOf ts n us → Unlike (kind.Delimiter delimiter.Colon) (kind_of us) → Named ts
name_names r h = name_by r.0 r.1 h

-- an expression doesn't begin with the word open
pub not_open : (k : Option Kind) → begins_expression k ≡ true → is_open k ≡ false
not_open (Some (kind.Word reserved.Open)) e = absurd cc
not_open _ e = refl
