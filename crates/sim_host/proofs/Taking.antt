-- What reads take off a file, one after another, and what a whole file comes to.
use Rattle.std.proofs.Common.{◌≡◌, ℕ, ◌+◌, ◌<◌, List, [], ◌++◌, length, drop, None, Some, Option, refl, sym, ap, ◌∙◌, arith, append_assoc, length-append, option_map, inr}
use Rattle.std.proofs.lemmas.List.{drop_at}
use Rattle.std.specs.Prelude.{⊤, IsSomeAnd, IfSome, option_and_then}
use Rattle.std.specs.Io.KnownBytes.{prepend_known}
use Rattle.sim_host.specs.declared.errors.ReadError.{ReadError}
use Rattle.sim_host.specs.declared.errors.ReadError.TheVariants as refusal
use Rattle.sim_host.specs.Host.{StopsReading, Files, Reads, Seen, StopsTaking, TextHas, bytes_of, started, took}

prepend_known-prepend : (xs ys : List ℕ) (o : Option (List ℕ)) → prepend_known xs (prepend_known ys o) ≡ prepend_known (xs ++ ys) o
prepend_known-prepend xs ys None = refl
prepend_known-prepend xs ys (Some left) = ap Some (sym (append_assoc xs ys left))

prepend_known-nil : (o : Option (List ℕ)) → prepend_known [] o ≡ o
prepend_known-nil None = refl
prepend_known-nil (Some left) = refl

drop_known-prepend : (xs : List ℕ) (o : Option (List ℕ)) → option_map (drop (length xs)) (prepend_known xs o) ≡ o
drop_known-prepend xs None = refl
drop_known-prepend xs (Some left) = ap Some (drop_at xs left (length xs) refl)

-- nothing is read yet
pub reads_nothing : (s : Seen) → Reads [] s s
reads_nothing s = record { first = sym (prepend_known-nil s.left); rest = refl }

-- two reads are one
pub reads_more : (xs ys : List ℕ) (old now next : Seen) → Reads xs old now → Reads ys now next → Reads (xs ++ ys) old next
reads_more xs ys old now next p q = record {
  first = p.first ∙ ap (prepend_known xs) q.first ∙ prepend_known-prepend xs ys next.left;
  rest = q.rest ∙ ap (λ (s : Seen). record s { left = next.left }) p.rest;
}

-- what was read is off what is left
pub reads-took : (xs : List ℕ) (old new : Seen) → Reads xs old new → new ≡ took (length xs) old
reads-took xs old new p =
    p.rest ∙ ap (λ (o : Option (List ℕ)). record old { left = o }) (sym (drop_known-prepend xs new.left) ∙ ap (option_map (drop (length xs))) (sym p.first))

-- reads before one that ended early
pub stops_later : (e : ReadError) (xs : List ℕ) (limit spare : ℕ) (old now next : Seen) → length xs + spare ≡ limit → Reads xs old now → StopsTaking e spare now next → StopsTaking e limit old next
stops_later refusal.TooLong xs limit spare old now next sum p q =
    (xs ++ q.0, length-append xs q.0 ∙ omega arith, reads_more xs q.0 old now next p q.2)
stops_later refusal.Host xs limit spare old now next sum p q =
    (xs ++ q.0, omega (arith, length-append xs q.0), reads_more xs q.0 old now next p q.2)
stops_later refusal.NoMemory xs limit spare old now next sum p q =
    (xs ++ q.0, omega (arith, length-append xs q.0), reads_more xs q.0 old now next p q.2)

text_past : (bytes : List ℕ) (limit : ℕ) (text left : Option (List ℕ)) → IsSomeAnd text (λ _. ⊤) → text ≡ prepend_known bytes left → length bytes ≡ limit + 1 → IsSomeAnd text (λ t. limit < length t)
text_past bytes limit None left there e long = there
text_past bytes limit (Some t) None there e long = cc
text_past bytes limit (Some t) (Some l) there e long =
    let split : t ≡ bytes ++ l = cc in
    omega (arith, ap length split, length-append bytes l)

long_text : (name bytes : List ℕ) (limit : ℕ) (files : Option Files) (left : Option (List ℕ)) → IfSome files (λ fs. IsSomeAnd (bytes_of name fs) (λ _. ⊤)) → option_and_then (bytes_of name) files ≡ prepend_known bytes left → length bytes ≡ limit + 1 → IfSome files (λ fs. IsSomeAnd (bytes_of name fs) (λ t. limit < length t))
long_text name bytes limit None left there e long = tt
long_text name bytes limit (Some fs) left there e long = text_past bytes limit (bytes_of name fs) left there e long

-- a file that was begun, and not read to its end
pub stops_reading : (e : ReadError) (name : List ℕ) (limit : ℕ) (old new : Seen) → TextHas name old (λ _. ⊤) → StopsTaking e limit (started name old) new → StopsReading e name limit old new
stops_reading refusal.TooLong name limit old new there q = record {
  text = long_text name q.0 limit old.files new.left there q.2.first q.1;
  taken = reads-took q.0 (started name old) new q.2 ∙ ap (λ n. took n (started name old)) q.1;
}
stops_reading refusal.Host name limit old new there q = inr (length q.0, q.1, reads-took q.0 (started name old) new q.2)
stops_reading refusal.NoMemory name limit old new there q = inr (inr (length q.0, q.1, reads-took q.0 (started name old) new q.2))
