-- What the reading of all tokens comes to.
use Rattle.std.proofs.Common.{◌≡◌, ℕ, ◌+◌, ◌-◌, ◌<◌, inl, inr, List, [], length, Result, Ok, Err, refl, sym, ap, ◌∙◌, subst, arith}
use Rattle.vhdl_tokens.specs.declared.token.Token.{Token}
use Rattle.vhdl_tree.specs.declared.units.DesignFile.{DesignFile}
use Rattle.vhdl_tree.specs.Units.{Sentence, IsDesignFile}
use Rattle.vhdl_tree.specs.Faults.{IsSyntaxFault}
use Rattle.vhdl_reader_expressions.specs.declared.stop.Stop.{Stop}
use Rattle.vhdl_reader_expressions.specs.declared.stop.Stop.TheVariants as stops
use Rattle.vhdl_reader_expressions.specs.Steps.{Found, Stopped, Reads, whole}
use Rattle.vhdl_reader_expressions.proofs.Whole.{whole_found, whole_spends, whole_stops, whole_begins, one_whole, whole_is}
use Rattle.vhdl_reader.specs.declared.error.SyntaxError.{SyntaxError}
use Rattle.vhdl_reader.specs.Reading.{design_file}
use Rattle.vhdl_reader.specs.Judgement.{Parses, Gives, error_at}
use Rattle.vhdl_reader.proofs.Laws.{design_file_law}
use Rattle.vhdl_reader.proofs.UnitSounds.{design_file_sound}
use Rattle.vhdl_reader.proofs.UnitCompletes.{design_file_up}
use Rattle.vhdl_reader.proofs.UnitFronts.{design_file_viable}

-- a text has one tree at most
pub one_sentence : (tokens : List Token) (tree other : DesignFile) → Sentence tokens tree → Sentence tokens other → tree ≡ other
one_sentence tokens tree other h g = let bound = length tokens + 1 in
    one_whole bound (design_file bound) IsDesignFile (design_file_law bound) (design_file_sound bound) (design_file_up bound) tokens tree other (omega arith) h g

module _ (tokens left : List Token) (bound : ℕ) (enough : length tokens < bound) where
  fault : whole (design_file bound) tokens ≡ Stopped left → IsSyntaxFault tokens (length tokens - length left)
  fault e = let s = whole_stops bound (design_file bound) IsDesignFile (design_file_law bound) (design_file_sound bound) (design_file_up bound) tokens left enough e in
      let b = whole_begins (design_file bound) IsDesignFile (design_file_viable bound) tokens left e in record {
        within = s.within;
        early = λ less others tree same h. s.early less others tree same h;
        ends = λ same tree h. s.ends same tree h;
        begins = record { others = b.others; tree = b.tree; same = b.same; sentence = b.stands };
      }

  unspent : Reads (whole (design_file bound) tokens) (Err stops.Bound) left → ⊥
  unspent e = whole_spends bound (design_file bound) IsDesignFile (design_file_law bound) (design_file_sound bound) (design_file_up bound) tokens enough e

  read_file : (tree : DesignFile) → Reads (whole (design_file bound) tokens) (Ok tree) left → Sentence tokens tree
  read_file tree e = (whole_found bound (design_file bound) IsDesignFile (design_file_law bound) (design_file_sound bound) (design_file_up bound) tokens left tree e).0

  read_error : (stop : Stop) → Reads (whole (design_file bound) tokens) (Err stop) left → Parses tokens (Err (error_at stop (length tokens - length left)))
  read_error stops.Syntax e = fault e
  read_error stops.Bound e = absurd (unspent e)
  read_error stops.NoMemory e = tt

  found_file : (tree : DesignFile) → Sentence tokens tree → whole (design_file bound) tokens ≡ Found tree []
  found_file tree h = whole_is bound (design_file bound) IsDesignFile (design_file_law bound) (design_file_sound bound) (design_file_up bound) tokens tree enough h

  only_file : (file tree : DesignFile) → Reads (whole (design_file bound) tokens) (Ok file) left → Sentence tokens tree → Gives (Ok file) tree
  only_file file tree e h = let f = found_file tree h in let same : file ≡ tree = cc in inl same

  only_error : (stop : Stop) (tree : DesignFile) → Reads (whole (design_file bound) tokens) (Err stop) left → Sentence tokens tree → Gives (Err (error_at stop (length tokens - length left))) tree
  only_error stops.Syntax tree e h = let f = found_file tree h in absurd cc
  only_error stops.Bound tree e h = absurd (unspent e)
  only_error stops.NoMemory tree e h = inr refl

-- ---- from a cursor that starts at these tokens

module _ (tokens start left : List Token) (bound : ℕ) (enough : length tokens < bound) (same : start ≡ tokens) (result : Result DesignFile Stop)
    (read : Reads (whole (design_file bound) start) result left) where
  read_as : (r : Result DesignFile Stop) → result ≡ r → Reads (whole (design_file bound) tokens) r left
  read_as r is = subst (λ q. Reads (whole (design_file bound) tokens) q left) is (subst (λ ts. Reads (whole (design_file bound) ts) result left) same read)

  -- the bound is never used up
  pub never_spent : (stop : Stop) → result ≡ Err stop → stop ≡ stops.Bound → ⊥
  never_spent stop is spent = let all : result ≡ Err stops.Bound = is ∙ ap Err spent in unspent tokens left bound enough (read_as (Err stops.Bound) all)

  pub ok_parses : (file : DesignFile) → result ≡ Ok file → Parses tokens (Ok file)
  ok_parses file is = read_file tokens left bound enough file (read_as (Ok file) is)

  pub ok_gives : (file : DesignFile) → result ≡ Ok file → (tree : DesignFile) → Sentence tokens tree → Gives (Ok file) tree
  ok_gives file is tree h = only_file tokens left bound enough file tree (read_as (Ok file) is) h

  module _ (stop : Stop) (e : SyntaxError) (count : ℕ) (is : result ≡ Err stop) (counted : count ≡ length left) (found : e ≡ error_at stop (length tokens - count)) where
    found_at : e ≡ error_at stop (length tokens - length left)
    found_at = subst (λ n. e ≡ error_at stop (length tokens - n)) counted found

    pub error_parses : Parses tokens (Err e)
    error_parses = subst (λ f. Parses tokens (Err f)) (sym found_at) (read_error tokens left bound enough stop (read_as (Err stop) is))

    pub error_gives : (tree : DesignFile) → Sentence tokens tree → Gives (Err e) tree
    error_gives tree h = subst (λ f. Gives (Err f) tree) (sym found_at) (only_error tokens left bound enough stop tree (read_as (Err stop) is) h)
