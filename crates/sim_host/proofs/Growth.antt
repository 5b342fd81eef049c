-- What writes to a channel come to, one after another. For each loop that writes one text in pieces:
-- its invariant has `Progress`, which `begins` makes, `advances` and `onto` take on, and `ends` or `cut` close.
use Rattle.std.proofs.Common.{◌≡◌, ℕ, ◌+◌, ◌<◌, List, [], ◌++◌, length, take, drop, None, Some, Option, Ok, Err, Result, refl, sym, ap, ◌∙◌, arith, append_assoc, append-nil, length-append, take-append-drop}
use Rattle.std.proofs.lemmas.List.{take-append-le}
use Rattle.std.proofs.Math.Seq.{take-add, take-append-add}
use Rattle.std.specs.Io.KnownBytes.{append_known}
use Rattle.sim_host.specs.declared.channels.Channel.{Channel}
use Rattle.sim_host.specs.declared.channels.Channel.TheVariants as channel
use Rattle.sim_host.specs.Host.{Seen, Written, MayWrite, Writes, WroteFront, added, wrote}

append_known-append : (o : Option (List ℕ)) (xs ys : List ℕ) → append_known (append_known o xs) ys ≡ append_known o (xs ++ ys)
append_known-append None xs ys = refl
append_known-append (Some held) xs ys = ap Some (append_assoc held xs ys)

append_known-nil : (o : Option (List ℕ)) → append_known o [] ≡ o
append_known-nil None = refl
append_known-nil (Some held) = ap Some (append-nil held)

pub added-added : (to : Channel) (xs ys : List ℕ) (w : Written) → added to ys (added to xs w) ≡ added to (xs ++ ys) w
added-added channel.Out xs ys w = ap (λ (o : Option (List ℕ)). record w { out = o }) (append_known-append w.out xs ys)
added-added channel.Err xs ys w = ap (λ (o : Option (List ℕ)). record w { err = o }) (append_known-append w.err xs ys)
added-added channel.File xs ys w = ap (λ (o : Option (List ℕ)). record w { file = o }) (append_known-append w.file xs ys)

pub added-nil : (to : Channel) (w : Written) → added to [] w ≡ w
added-nil channel.Out w = ap (λ (o : Option (List ℕ)). record w { out = o }) (append_known-nil w.out)
added-nil channel.Err w = ap (λ (o : Option (List ℕ)). record w { err = o }) (append_known-nil w.err)
added-nil channel.File w = ap (λ (o : Option (List ℕ)). record w { file = o }) (append_known-nil w.file)

-- two writes to one channel are one write
pub wrote-wrote : (to : Channel) (xs ys : List ℕ) (s : Seen) → wrote to ys (wrote to xs s) ≡ wrote to (xs ++ ys) s
wrote-wrote to xs ys s = ap (λ (w : Written). record s { written = w }) (added-added to xs ys s.written)

-- a write of nothing changes nothing
pub wrote-nothing : (to : Channel) (s : Seen) → wrote to [] s ≡ s
wrote-nothing to s = ap (λ (w : Written). record s { written = w }) (added-nil to s.written)

-- a write does not end what lets one write
pub MayWrite-wrote : (to also : Channel) (xs : List ℕ) (s : Seen) → MayWrite to s → MayWrite to (wrote also xs s)
MayWrite-wrote channel.Out also xs s may = may
MayWrite-wrote channel.Err also xs s may = may
MayWrite-wrote channel.File also xs s may = may

-- a front of the whole text was written to the channel, and the rest is still to be written
pub record Progress (to : Channel) (all rest : List ℕ) (old now : Seen) : Type 0 where
  pub front : List ℕ
  pub written : now ≡ wrote to front old
  pub whole : all ≡ front ++ rest

-- nothing is written yet
pub begins : (to : Channel) (all : List ℕ) (old : Seen) → Progress to all all old old
begins to all old = record { front = []; written = sym (wrote-nothing to old); whole = refl }

-- the rest is the same list, written in another way
pub onto : {to : Channel} {all rest other : List ℕ} {old now : Seen} → rest ≡ other → Progress to all rest old now → Progress to all other old now
onto {all} e p = record { front = p.front; written = p.written; whole = p.whole ∙ ap (λ r. p.front ++ r) e }

-- a piece of the rest was written
pub advances : (to : Channel) (all piece rest : List ℕ) (old now next : Seen) → Progress to all (piece ++ rest) old now → next ≡ wrote to piece now → Progress to all rest old next
advances to all piece rest old now next p e = record {
  front = p.front ++ piece;
  written = e ∙ ap (wrote to piece) p.written ∙ wrote-wrote to p.front piece old;
  whole = p.whole ∙ sym (append_assoc p.front piece rest);
}

-- a piece of the rest was cut off: a front of the whole text was written
pub cut : (to : Channel) (all piece rest : List ℕ) (old now next : Seen) → Progress to all (piece ++ rest) old now → WroteFront to piece now next → WroteFront to all old next
cut to all piece rest old now next p w =
    let k = w.0 in
    let inside : k < length piece = w.1 in
    let lengths : length all ≡ length p.front + (length piece + length rest) = ap length p.whole ∙ length-append p.front (piece ++ rest) ∙ ap (λ n. length p.front + n) (length-append piece rest) in
    let within : length p.front + k < length all = omega arith in
    let front : p.front ++ take k piece ≡ take (length p.front + k) all =
    ap (λ t. p.front ++ t) (sym (take-append-le k piece rest (omega arith))) ∙ sym (take-append-add p.front (piece ++ rest) k) ∙ ap (take (length p.front + k)) (sym p.whole) in
    (length p.front + k, within, w.2 ∙ ap (wrote to (take k piece)) p.written ∙ wrote-wrote to p.front (take k piece) old ∙ ap (λ t. wrote to t old) front)

-- the last piece: what its write came to is what the whole came to
pub ends : {T E : Type 0} (to : Channel) (all piece : List ℕ) (result : Result T E) (old now next : Seen) → Progress to all piece old now → Writes to piece result now next → Writes to all result old next
ends to all piece (Ok done) old now next p w =
    w ∙ ap (wrote to piece) p.written ∙ wrote-wrote to p.front piece old ∙ ap (λ t. wrote to t old) (sym p.whole)
ends to all piece (Err e) old now next p w = cut to all piece [] old now next (onto (sym (append-nil piece)) p) w

-- what is written of a text that was cut off is a front of it
pub front_of : (to : Channel) (text : List ℕ) (old new : Seen) → WroteFront to text old new → (front rest : List ℕ) × (text ≡ front ++ rest) × (new ≡ wrote to front old)
front_of to text old new w = (take w.0 text, drop w.0 text, sym (take-append-drop w.0 text), w.2)

-- the next bytes of a text were written
pub written_more : (to : Channel) (text : List ℕ) (done n : ℕ) (old now next : Seen) → now ≡ wrote to (take done text) old → next ≡ wrote to (take n (drop done text)) now → next ≡ wrote to (take (done + n) text) old
written_more to text done n old now next p e =
    e ∙ ap (wrote to (take n (drop done text))) p ∙ wrote-wrote to (take done text) (take n (drop done text)) old ∙ ap (λ t. wrote to t old) (sym (take-add done n text))
