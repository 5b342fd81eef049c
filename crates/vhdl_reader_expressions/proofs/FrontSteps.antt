-- Where a reader stops, some tokens more would have made a production: from what holds behind the tokens before a place, whatever
-- follows there, to what holds behind those that were read.
use Rattle.std.proofs.Common.{◌≡◌, ℕ, Bool, true, false, Option, Some, None, List, [], ◌∷◌, ◌++◌, if◌then◌else◌, append_assoc, refl, sym, ap, ◌∙◌, subst}
use Rattle.std.proofs.lemmas.List.{append_cancel_right}
use Rattle.vhdl_tokens.specs.declared.token.Kind.{Kind}
use Rattle.vhdl_tokens.specs.declared.token.Token.{Token}
use Rattle.vhdl_tree.specs.Words.{Span, tok, kind_of, place_of, line_of}
use Rattle.vhdl_tree.specs.Lists.{Perhaps, IsToken, IsOptional}
use Rattle.vhdl_reader_expressions.specs.Steps.{Answer, Found, Stopped, Spent, Parser, next, sees, and_then, ◌>>=◌, pure, stop, spent, on, choose, choose_by, look, here, on_line, word, any, token, optional, perhaps}
use Rattle.vhdl_reader_expressions.proofs.NextToken.{same_true, span_of, seen}

-- ---- tokens before a place

-- the tokens before a place, as what puts them before those behind it
pub record Front : Type 0 where
  pub tokens : List Token
  pub put : List Token → List Token
  pub puts : (us : List Token) → put us ≡ tokens ++ us

-- none
abbrev pub none_before : Front
none_before = record { tokens = []; put = λ us. us; puts = λ us. refl }

-- one
abbrev pub one_before : Token → Front
one_before t = record { tokens = t ∷ []; put = λ us. t ∷ us; puts = λ us. refl }

-- these, and then those
infixl 20 ◌then◌
abbrev pub ◌then◌ : Front → Front → Front
f then g = record {
  tokens = f.tokens ++ g.tokens;
  put = λ us. f.put (g.put us);
  puts = λ us. f.puts (g.put us) ∙ ap (λ vs. f.tokens ++ vs) (g.puts us) ∙ sym (append_assoc f.tokens g.tokens us);
}

-- the same tokens stand before the same ones
pub same_front : (f g : Front) (us vs ws : List Token) → us ≡ f.put vs → us ≡ g.put vs → f.put ws ≡ g.put ws
same_front f g us vs ws is other = let same : f.tokens ≡ g.tokens = append_cancel_right f.tokens g.tokens vs (sym (f.puts vs) ∙ sym is ∙ other ∙ g.puts vs) in
    f.puts ws ∙ ap (λ zs. zs ++ ws) same ∙ sym (g.puts ws)

-- some place, for a token that nobody looks at
abbrev pub somewhere : Span
somewhere = record { start = 0; end = 0; line = 0 }

-- ---- what holds between the tokens from a place on and those from a later one on

abbrev pub State : Type 1
State = List Token → List Token → Type 0

-- it holds behind these tokens, whatever follows
abbrev pub Holds : State → Front → Type 0
Holds B f = (us : List Token) → B (f.put us) us

-- with some tokens more it would hold
abbrev pub Opens : {A : Type 0} → (A → State) → Front → Type 0
Opens {A = A} after f = (more : Front) × (a : A) × Holds (after a) (f then more)

-- what holds behind what was read, or would with some tokens more where the reader stopped
abbrev pub Leads : {A : Type 0} → (A → State) → Front → List Token → Answer A → Type 0
Leads after f us (Found a vs) = (g : Front) × (us ≡ g.put vs) × Holds (after a) (f then g)
Leads after f us (Stopped vs) = (g : Front) × (us ≡ g.put vs) × Opens after (f then g)
Leads after f us Spent = Unit {0}

-- from tokens behind which before holds, p comes to after; P is what is known of the tokens that it reads
pub record LeadsFrom {A : Type 0} (P : List Token → Type 0) (before : State) (p : Parser A) (after : A → State) : Type 0 where
  pub holds : (f : Front) (us : List Token) → P us → Holds before f → Leads after f us (p us)
  pub seed : (f : Front) → Holds before f → Opens after f

abbrev pub LeadsTo : {A : Type 0} → State → Parser A → (A → State) → Type 0
LeadsTo = LeadsFrom (λ us. Unit {0})

-- some tree of a production
abbrev pub Some_of : {A : Type 0} → (List Token → A → List Token → Type 0) → State
Some_of {A = A} R ts us = (a : A) × R ts a us

-- p reads such a production, or would with some tokens more
pub record Viable {A : Type 0} (p : Parser A) (R : List Token → A → List Token → Type 0) : Type 0 where
  pub leads : LeadsTo (λ ts us. us ≡ ts) p (λ a. Some_of R)

-- ---- what was read behind other tokens

-- behind the first of them
pub behind_f : {A : Type 0} (after : A → State) (f g : Front) (us vs : List Token) → us ≡ g.put vs → (r : Answer A) → Leads after (f then g) vs r → Leads after f us r
behind_f after f g us vs e (Found a ws) h = (g then h.0, e ∙ ap g.put h.1, h.2)
behind_f after f g us vs e (Stopped ws) h = (g then h.0, e ∙ ap g.put h.1, h.2)
behind_f after f g us vs e Spent h = tt

leads_as : {A : Type 0} (after other : A → State) (f g : Front) → ((h : Front) (a : A) → Holds (after a) (f then h) → Holds (other a) (g then h)) → (us : List Token) (r : Answer A) → Leads after f us r → Leads other g us r
leads_as after other f g turn us (Found a vs) h = (h.0, h.1, turn h.0 a h.2)
leads_as after other f g turn us (Stopped vs) h = (h.0, h.1, (h.2.0, h.2.1, turn (h.0 then h.2.0) h.2.1 h.2.2))
leads_as after other f g turn us Spent h = tt

-- ---- readers

-- what holds behind a reader may be weakened
pub after_f : {A : Type 0} {P : List Token → Type 0} {before : State} {p : Parser A} {after other : A → State} → ((a : A) (ts us : List Token) → after a ts us → other a ts us)
    → LeadsFrom P before p after → LeadsFrom P before p other
after_f {p = p} {after = after} {other = other} turn l = record {
  holds = λ f us known b. leads_as after other f f (λ h a holds vs. turn a (f.put (h.put vs)) vs (holds vs)) us (p us) (l.holds f us known b);
  seed = λ f b. let s = l.seed f b in (s.0, s.1, λ us. turn s.1 (f.put (s.0.put us)) us (s.2 us));
}

-- less may be asked of the tokens before
pub before_f : {A : Type 0} {P : List Token → Type 0} {before other : State} {p : Parser A} {after : A → State} → ((ts us : List Token) → before ts us → other ts us)
    → LeadsFrom P other p after → LeadsFrom P before p after
before_f turn l = record { holds = λ f us known b. l.holds f us known (λ vs. turn (f.put vs) vs (b vs)); seed = λ f b. l.seed f (λ vs. turn (f.put vs) vs (b vs)) }

-- and nothing need be known of those that are read
pub known_f : {A : Type 0} (P : List Token → Type 0) {before : State} {p : Parser A} {after : A → State} → LeadsTo before p after → LeadsFrom P before p after
known_f P l = record { holds = λ f us known b. l.holds f us tt b; seed = l.seed }

-- the first reader of a production
pub start_f : {A : Type 0} {p : Parser A} {R : List Token → A → List Token → Type 0} → Viable p R → LeadsTo (λ ts us. us ≡ ts) p (λ a. Some_of R)
start_f v = v.leads

-- a reader in the midst of a production
pub call_f : {A : Type 0} {before : State} {p : Parser A} {R : List Token → A → List Token → Type 0} → Viable p R
    → LeadsTo before p (λ a ts us. (ms : List Token) × before ts ms × Some_of R ms us)
call_f {before = before} {p = p} {R = R} v = record {
  holds = λ f us known b. leads_as (λ a. Some_of R) (λ a ts vs. (ms : List Token) × before ts ms × Some_of R ms vs) none_before f (λ h a holds vs. (h.put vs, b (h.put vs), holds vs)) us (p us)
      (v.leads.holds none_before us tt (λ vs. refl));
  seed = λ f b. let s = v.leads.seed none_before (λ vs. refl) in (s.0, s.1, λ vs. (s.0.put vs, b (s.0.put vs), s.2 vs));
}

then_leads : {A B : Type 0} (mid : A → State) (after : B → State) (q : A → Parser B) → ((a : A) → LeadsTo (mid a) (q a) after) → (f : Front) (us : List Token) (r : Answer A)
    → Leads mid f us r → Leads after f us (and_then r q)
then_leads mid after q two f us (Found a vs) h = behind_f after f h.0 us vs h.1 (q a vs) ((two a).holds (f then h.0) vs tt h.2)
then_leads mid after q two f us (Stopped vs) h = let s = (two h.2.1).seed ((f then h.0) then h.2.0) h.2.2 in (h.0, h.1, (h.2.0 then s.0, s.1, s.2))
then_leads mid after q two f us Spent h = tt

-- one reader after another
pub bind_f : {A B : Type 0} {P : List Token → Type 0} {before : State} {p : Parser A} {mid : A → State} {q : A → Parser B} {after : B → State}
    → LeadsFrom P before p mid → ((a : A) → LeadsTo (mid a) (q a) after) → LeadsFrom P before (p >>= q) after
bind_f {p = p} {mid = mid} {q = q} {after = after} one two = record {
  holds = λ f us known b. then_leads mid after q two f us (p us) (one.holds f us known b);
  seed = λ f b. let s = one.seed f b in let t = (two s.1).seed (f then s.0) s.2 in (s.0 then t.0, t.1, t.2);
}

-- what was read is the production
pub pure_f : {A : Type 0} {P : List Token → Type 0} {before : State} {a : A} {after : A → State} → ((ts us : List Token) → before ts us → after a ts us) → LeadsFrom P before (pure a) after
pure_f {a = a} is = record { holds = λ f us known b. (none_before, refl, λ vs. is (f.put vs) vs (b vs)); seed = λ f b. (none_before, a, λ vs. is (f.put vs) vs (b vs)) }

-- where one stops, or its bound is used up, these tokens more would do
pub stop_f : {A : Type 0} {P : List Token → Type 0} {before : State} {after : A → State} (more : Front) (a : A) → ((ts us : List Token) → before ts (more.put us) → after a ts us) → LeadsFrom P before stop after
stop_f more a is = record {
  holds = λ f us known b. (none_before, refl, (more, a, λ vs. is (f.put (more.put vs)) vs (b (more.put vs))));
  seed = λ f b. (more, a, λ vs. is (f.put (more.put vs)) vs (b (more.put vs)));
}

pub spent_f : {A : Type 0} {P : List Token → Type 0} {before : State} {after : A → State} (more : Front) (a : A) → ((ts us : List Token) → before ts (more.put us) → after a ts us) → LeadsFrom P before spent after
spent_f more a is = record { holds = λ f us known b. tt; seed = λ f b. (more, a, λ vs. is (f.put (more.put vs)) vs (b (more.put vs))) }

-- ---- by the next token

-- a token of a kind, or else
pub on_f : {A : Type 0} {P : List Token → Type 0} {before : State} (k : Kind) {hit miss : Parser A} {after : A → State}
    → LeadsTo (λ ts us. (x : Span) × before ts (tok k x ∷ us)) hit after → LeadsFrom P before miss after → LeadsFrom P before (on k hit miss) after
on_f {P = P} {before = before} k {hit = hit} {miss = miss} {after = after} found other = record { holds = λ f us known b. by f us known b (sees k us) refl; seed = other.seed }
  where
    by : (f : Front) (us : List Token) → P us → Holds before f → (s : Bool) → sees k us ≡ s → Leads after f us (if s then hit (next us) else miss us)
    by f us known b true e = let n = seen k us e in
        behind_f after f (one_before (tok k n.span)) us (next us) n.is (hit (next us)) (found.holds (f then one_before (tok k n.span)) (next us) tt (λ vs. (n.span, b (tok k n.span ∷ vs))))
    by f us known b false e = other.holds f us known b

-- a token of a table, or else
pub choose_f : {O A : Type 0} {P : List Token → Type 0} {before : State} (table : Option Kind → Option O) {hit : O → Parser A} {miss : Parser A} {after : A → State} → table None ≡ None
    → ((o : O) → LeadsTo (λ ts us. (k : Kind) × (x : Span) × before ts (tok k x ∷ us) × (table (Some k) ≡ Some o)) (hit o) after) → LeadsFrom P before miss after
    → LeadsFrom P before (choose table hit miss) after
choose_f {O = O} {P = P} {before = before} table {hit = hit} {miss = miss} {after = after} closed found other = record { holds = λ f us known b. by f us known b (table (kind_of us)) refl; seed = other.seed }
  where
    by : (f : Front) (us : List Token) → P us → Holds before f → (c : Option O) → table (kind_of us) ≡ c → Leads after f us (choose_by c hit miss us)
    by f [] known b (Some o) e = absurd cc
    by f (t ∷ us) known b (Some o) e =
        behind_f after f (one_before t) (t ∷ us) us refl (hit o us) ((found o).holds (f then one_before t) us tt (λ vs. (t.kind, span_of t, b (t ∷ vs), e)))
    by f us known b None e = other.holds f us known b

-- what a test of the next token says is known of the tokens that are read; without any the test says `o`
pub look_f : {O A : Type 0} {P : List Token → Type 0} {before : State} (test : Option Kind → O) (q : O → Parser A) {after : A → State} (o : O)
    → ((o : O) → LeadsFrom (λ us. P us × (test (kind_of us) ≡ o)) before (q o) after) → LeadsFrom P before (look test q) after
look_f test q o each = record { holds = λ f us known b. (each (test (kind_of us))).holds f us (known, refl) b; seed = (each o).seed }

-- the place of the next token, and its line
pub here_f : {A : Type 0} {P : List Token → Type 0} {before : State} (q : ℕ → Parser A) {after : A → State} → ((place : ℕ) → LeadsFrom P before (q place) after) → LeadsFrom P before (here q) after
here_f q each = record { holds = λ f us known b. (each (place_of us)).holds f us known b; seed = (each 0).seed }

pub on_line_f : {A : Type 0} {P : List Token → Type 0} {before : State} (q : ℕ → Parser A) {after : A → State} → ((line : ℕ) → LeadsFrom P before (q line) after) → LeadsFrom P before (on_line q) after
on_line_f q each = record { holds = λ f us known b. (each (line_of us)).holds f us known b; seed = (each 0).seed }

-- ---- single tokens

-- a word
pub word_f : {P : List Token → Type 0} {before : State} (k : Kind) → LeadsFrom P before (word k) (λ a ts us. (x : Span) × before ts (tok k x ∷ us))
unfolding word
word_f k = on_f k (pure_f (λ ts us h. h)) (stop_f (one_before (tok k somewhere)) tt (λ ts us h. (somewhere, h)))

-- any token of which a test says o, as such a one is next
pub any_f : {O : Type 0} {before : State} {P : List Token → Type 0} (test : Option Kind → O) (o : O) (k : Kind) → test (Some k) ≡ o
    → LeadsFrom (λ us. P us × (test (kind_of us) ≡ o)) before any (λ t ts us. (k : Kind) × (x : Span) × before ts (tok k x ∷ us) × (test (Some k) ≡ o))
any_f {O = O} {before = before} {P = P} test o k is = record {
  holds = by;
  seed = λ f b. (one_before (tok k somewhere), tok k somewhere, λ vs. (k, somewhere, b (tok k somewhere ∷ vs), is));
}
  where
    by : (f : Front) (us : List Token) → P us × (test (kind_of us) ≡ o) → Holds before f
        → Leads (λ t ts us. (k : Kind) × (x : Span) × before ts (tok k x ∷ us) × (test (Some k) ≡ o)) f us (any us)
    by f [] known b = (none_before, refl, (one_before (tok k somewhere), tok k somewhere, λ vs. (k, somewhere, b (tok k somewhere ∷ vs), is)))
    by f (t ∷ us) known b = (one_before t, refl, λ vs. (t.kind, span_of t, b (t ∷ vs), known.1))

-- a token that is kept
pub kept_f : {P : List Token → Type 0} {before : State} (k : Kind) → LeadsFrom P before (token k) (λ t ts us. (x : Span) × (t ≡ tok k x) × before ts (tok k x ∷ us))
unfolding token
kept_f {P = P} {before = before} k = record {
  holds = λ f us known b. by f us b (sees k us) refl;
  seed = λ f b. (one_before (tok k somewhere), tok k somewhere, λ vs. (somewhere, refl, b (tok k somewhere ∷ vs)));
}
  where
    by : (f : Front) (us : List Token) → Holds before f → (s : Bool) → sees k us ≡ s → Leads (λ t ts us. (x : Span) × (t ≡ tok k x) × before ts (tok k x ∷ us)) f us (if s then any us else Stopped us)
    by f [] b true e = absurd cc
    by f (t ∷ us) b true e = let is : t ≡ tok k (span_of t) = ap (λ j. tok j (span_of t)) (same_true t.kind k e) in
        (one_before (tok k (span_of t)), ap (λ x. x ∷ us) is, λ vs. (span_of t, is, b (tok k (span_of t) ∷ vs)))
    by f us b false e = (none_before, refl, (one_before (tok k somewhere), tok k somewhere, λ vs. (somewhere, refl, b (tok k somewhere ∷ vs))))

-- and what is done with it
pub token_f : {A : Type 0} {P : List Token → Type 0} {before : State} (k : Kind) (q : Token → Parser A) {after : A → State}
    → ((x : Span) → LeadsTo (λ ts us. before ts (tok k x ∷ us)) (q (tok k x)) after) → LeadsFrom P before (token k >>= q) after
unfolding token
token_f {P = P} {before = before} k q {after = after} each = record {
  holds = λ f us known b. by f us b (sees k us) refl;
  seed = λ f b. let s = (each somewhere).seed (f then one_before (tok k somewhere)) (λ vs. b (tok k somewhere ∷ vs)) in (one_before (tok k somewhere) then s.0, s.1, s.2);
}
  where
    by : (f : Front) (us : List Token) → Holds before f → (s : Bool) → sees k us ≡ s → Leads after f us (and_then (if s then any us else Stopped us) q)
    by f [] b true e = absurd cc
    by f (t ∷ us) b true e = let is : t ≡ tok k (span_of t) = ap (λ j. tok j (span_of t)) (same_true t.kind k e) in
        behind_f after f (one_before (tok k (span_of t))) (t ∷ us) us (ap (λ x. x ∷ us) is) (q t us)
        (subst (λ x. Leads after (f then one_before (tok k (span_of t))) us (q x us)) (sym is)
        ((each (span_of t)).holds (f then one_before (tok k (span_of t))) us tt (λ vs. b (tok k (span_of t) ∷ vs))))
    by f us b false e = let s = (each somewhere).seed (f then one_before (tok k somewhere)) (λ vs. b (tok k somewhere ∷ vs)) in (none_before, refl, (one_before (tok k somewhere) then s.0, s.1, s.2))

-- ---- what these are as productions

pub token_viable : {k : Kind} → Viable (token k) (IsToken k)
token_viable {k = k} = record { leads = after_f (λ t ts us h. (tok k h.0, subst (λ xs. IsToken k xs (tok k h.0) us) h.2 IsToken.single)) (kept_f k) }

-- [ token ]
pub optional_viable : {k : Kind} → Viable (optional k) (IsOptional k)
unfolding optional
optional_viable {k = k} = record { leads = record { holds = λ f us known b. by f us b (sees k us) refl; seed = λ f b. (none_before, None, λ vs. (None, subst (λ xs. IsOptional k xs None vs) (b vs) IsOptional.absent)) } }
  where
    by : (f : Front) (us : List Token) → Holds (λ ts us. us ≡ ts) f → (s : Bool) → sees k us ≡ s
        → Leads (λ a. Some_of (IsOptional k)) f us (if s then and_then (any us) (λ t. pure (Some t)) else Found None us)
    by f [] b true e = absurd cc
    by f (t ∷ us) b true e = let is : t ≡ tok k (span_of t) = ap (λ j. tok j (span_of t)) (same_true t.kind k e) in (
      one_before (tok k (span_of t)),
      ap (λ x. x ∷ us) is,
      λ vs. (Some (tok k (span_of t)), subst (λ xs. IsOptional k xs (Some (tok k (span_of t))) vs) (b (tok k (span_of t) ∷ vs)) IsOptional.present),
    )
    by f us b false e = (none_before, refl, λ vs. (None, subst (λ xs. IsOptional k xs None vs) (b vs) IsOptional.absent))

-- [ w x ]
pub perhaps_viable : {A : Type 0} {w : Kind} {p : Parser A} {R : List Token → A → List Token → Type 0} → Viable p R → Viable (perhaps w p) (Perhaps w R)
perhaps_viable {w = w} {R = R} v = record {
  leads = on_f w
      (bind_f (call_f v) (λ a. pure_f (λ ts us h. (Some h.2.0, subst (λ xs. Perhaps w R xs (Some h.2.0) us) h.1.1 (Perhaps.present h.2.1)))))
      (pure_f (λ ts us h. (None, subst (λ xs. Perhaps w R xs None us) h Perhaps.absent)));
}

-- what is one production is another
pub viable_as : {A : Type 0} {p : Parser A} {R S : List Token → A → List Token → Type 0} → ((ts us : List Token) (a : A) → R ts a us → S ts a us) → Viable p R → Viable p S
viable_as turn v = record { leads = after_f (λ a ts us h. (h.0, turn ts us h.0 h.1)) v.leads }
