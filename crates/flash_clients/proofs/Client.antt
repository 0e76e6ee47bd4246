-- The answers on the connections of a client: those that it left, and those that a request closed.
use Rattle.std.proofs.Common.{inl, inr, ◌≡◌, ◌⊎◌, ℕ, Bool, true, false, List, [], ◌∷◌, ◌++◌, ap, ◌∙◌, refl, sym, subst}
use Rattle.std.proofs.Common.{append-nil}
use Rattle.std.specs.Prelude.{not}
use Rattle.std.specs.List.{list_all}
use Rattle.std.proofs.lemmas.Bool.{and_from, and_parts}
use Rattle.flash_http.specs.declared.windows.Window.{Window}
use Rattle.flash_http.specs.declared.windows.Window.TheVariants.{Wait, Head, TooLarge}
use Rattle.flash_http.specs.Window.{window_in}
use Rattle.flash_http.specs.Request.{Answer, OneAnswer}
use Rattle.flash_laws.specs.Answers.{keeps, NextIn, Next, Reads, last_may_close, last_closes}
use Rattle.flash_laws.specs.SiteContents.{IsAnswer, Responds, SiteContents}
use Rattle.flash_laws.proofs.Conn.Responses.{WindowLaws, reads-append}
use Rattle.flash_laws.proofs.World.Responses.{responds-none}
use Rattle.flash_streams.specs.Follow.{IsAnsweredWhole, StreamsFollow}
use Rattle.flash_clients.specs.Clients.{IsClosed, IsLeft, Visit}

clash : (b : Bool) → b ≡ true → b ≡ false → ⊥
clash true yes_is no_is = absurd (cc (no_is))
clash false yes_is no_is = absurd (cc (yes_is))

-- if one of the requests closes the connection, and the first does not, one of the others does
closed_later : (q : Answer) (qs : List Answer) → keeps q ≡ true → list_all (λ p. keeps p) (q ∷ qs) ≡ false
    → list_all (λ p. keeps p) qs ≡ false
closed_later q qs keep close = by (list_all (λ p. keeps p) qs) refl
  where
    by : (b : Bool) → list_all (λ p. keeps p) qs ≡ b → list_all (λ p. keeps p) qs ≡ false
    by true is =
        absurd (clash (list_all (λ p. keeps p) (q ∷ qs)) (and_from (keeps q) (list_all (λ p. keeps p) qs) keep is)
        close)
    by false is = is

waits_not : (s : List ℕ) (q : Answer) (rest : List ℕ) → window_in s ≡ Wait → Next s q rest → ⊥
waits_not s q rest waits next = subst (λ (w : Window). NextIn w s q rest) waits next

none_next : (s : List ℕ) (q : Answer) (rest : List ℕ) → [] ≡ s → Next s q rest → ⊥
none_next s q rest none next = waits_not s q rest (ap (λ (l : List ℕ). window_in l) (sym none)) next

module _ (one : OneAnswer) where
  next_one : (s : List ℕ) (q p : Answer) (rest last : List ℕ) → Next s q rest → Next s p last → (q ≡ p) × (rest ≡ last)
  next_one s q p rest last a b = by (window_in s) a b
    where
      by : (w : Window) → NextIn w s q rest → NextIn w s p last → (q ≡ p) × (rest ≡ last)
      by Wait a b = absurd a
      by (Head skip len) a b = (one _ q p a.0 b.0, a.1 ∙ sym b.1)
      by TooLarge a b = (a.0 ∙ sym b.0, a.1 ∙ sym b.1)

  -- the requests of an answer to whole requests that keep the connection are these requests
  kept_all : (s : List ℕ) (qs ps : List Answer) (last : List ℕ) → Reads s qs [] → list_all (λ q. keeps q) qs ≡ true
      → Reads s ps last
      → (window_in last ≡ Wait) ⊎ (last_closes ps ≡ true) → ps ≡ qs
  kept_all s [] [] last a keep b ends = refl
  kept_all s [] (p ∷ ps) last a keep b ends = absurd (none_next s p b.0 a b.1)
  kept_all s (q ∷ qs) [] last a keep b (inl waits) =
      absurd (waits_not s q a.0 (ap (λ (l : List ℕ). window_in l) (sym b) ∙ waits) a.1)
  kept_all s (q ∷ qs) [] last a keep b (inr closes) = absurd (cc (closes))
  kept_all s (q ∷ qs) (p ∷ []) last a keep b (inl waits) =
      let same = next_one s q p a.0 b.0 a.1 b.1 in
      let rest = kept_all a.0 qs [] last a.2 (and_parts (keeps q) (list_all (λ r. keeps r) qs) keep).1
      (subst (λ (l : List ℕ). Reads l [] last) (sym same.1) b.2) (inl waits) in
      ap (λ (x : Answer). x ∷ []) (sym same.0) ∙ ap (λ (l : List Answer). q ∷ l) rest
  kept_all s (q ∷ qs) (p ∷ []) last a keep b (inr closes) =
      let same = next_one s q p a.0 b.0 a.1 b.1 in
      let stays = ap (λ (x : Answer). keeps x) (sym same.0)
      ∙ (and_parts (keeps q) (list_all (λ r. keeps r) qs) keep).0 in
      absurd (clash (not (keeps p)) closes (ap (λ k. not k) stays))
  kept_all s (q ∷ qs) (p ∷ t ∷ ps) last a keep b ends =
      let same = next_one s q p a.0 b.0 a.1 b.1 in
      let rest = kept_all a.0 qs (t ∷ ps) last a.2 (and_parts (keeps q) (list_all (λ r. keeps r) qs) keep).1
      (subst (λ (l : List ℕ). Reads l (t ∷ ps) last) (sym same.1) b.2) ends in
      ap (λ (x : Answer). x ∷ t ∷ ps) (sym same.0) ∙ ap (λ (l : List Answer). q ∷ l) rest

  -- a stream whose window waits has no request that closes the connection
  none_closes : (s : List ℕ) (qs : List Answer) (rest : List ℕ) → window_in s ≡ Wait → Reads s qs rest
      → list_all (λ q. keeps q) qs ≡ false → ⊥
  none_closes s [] rest waits is close = absurd (cc (close))
  none_closes s (q ∷ qs) rest waits is close = waits_not s q is.0 waits is.1

  -- if a request of the stream closes the connection, the requests of its answer end with one that closes it
  closes_last : (s : List ℕ) (qs ps : List Answer) (rest last : List ℕ) → Reads s qs rest
      → list_all (λ q. keeps q) qs ≡ false → Reads s ps last
      → last_may_close ps ≡ true → (window_in last ≡ Wait) ⊎ (last_closes ps ≡ true) → last_closes ps ≡ true
  closes_last s qs ps rest last a close b order (inr closes) = closes
  closes_last s [] ps rest last a close b order (inl waits) = absurd (cc (close))
  closes_last s (q ∷ qs) [] rest last a close b order (inl waits) =
      absurd (waits_not s q a.0 (ap (λ (l : List ℕ). window_in l) (sym b) ∙ waits) a.1)
  closes_last s (q ∷ qs) (p ∷ []) rest last a close b order (inl waits) = by (keeps q) refl
    where
      same : (q ≡ p) × (a.0 ≡ b.0)
      same = next_one s q p a.0 b.0 a.1 b.1

      by : (k : Bool) → keeps q ≡ k → not (keeps p) ≡ true
      by false is = ap (λ (x : Answer). not (keeps x)) (sym same.0) ∙ ap (λ k. not k) is
      by true is =
          absurd (none_closes a.0 qs rest (ap (λ (l : List ℕ). window_in l) (same.1 ∙ sym b.2) ∙ waits) a.2
          (closed_later q qs is close))
  closes_last s (q ∷ qs) (p ∷ t ∷ ps) rest last a close b order (inl waits) =
      let same = next_one s q p a.0 b.0 a.1 b.1 in
      let both = and_parts (keeps p) (last_may_close (t ∷ ps)) order in
      closes_last a.0 qs (t ∷ ps) rest last a.2 (closed_later q qs (ap (λ (x : Answer). keeps x) same.0 ∙ both.0) close)
      (subst (λ (l : List ℕ). Reads l (t ∷ ps) last) (sym same.1) b.2) both.1 (inl waits)

-- ---- answers

pub waits_answer : (site_contents : SiteContents) (s : List ℕ) → window_in s ≡ Wait → IsAnswer site_contents s []
waits_answer site_contents s waits =
    record {
      qs = [];
      rest = s;
      reads = refl;
      order = refl;
      responds = responds-none site_contents;
      no_more = inl waits;
    }

module _ (laws : WindowLaws) (one : OneAnswer) (follow : StreamsFollow) where
  -- a connection that was left has its whole responses
  pub left_whole : (v : Visit) → IsLeft v → IsAnsweredWhole v.site_contents v.came v.sent
  left_whole v left = record {
    qs = left.kept.qs;
    reads = left.kept.reads;
    keep = left.kept.keep;
    responds = subst (λ (l : List Answer). Responds v.site_contents l v.sent)
        (kept_all one v.came left.kept.qs left.answered.qs left.answered.rest left.kept.reads left.kept.keep
        left.answered.reads left.answered.no_more)
        left.answered.responds;
  }

  -- after a request that closed the connection, further bytes do not change the answer
  closed_answer : (v : Visit) (waiting : List ℕ) → IsClosed v → IsAnswer v.site_contents (v.came ++ waiting) v.sent
  closed_answer v waiting closed =
      let a = closed.answered in record {
        qs = a.qs;
        rest = a.rest ++ waiting;
        reads = reads-append laws v.came waiting a.qs a.rest a.reads;
        order = a.order;
        responds = a.responds;
        no_more =
            inr (closes_last one v.came closed.close.qs a.qs closed.close.rest a.rest closed.close.reads
            closed.close.close a.reads a.order a.no_more);
      }

  pub well_answer : (v : Visit) (waiting : List ℕ) → (IsLeft v × (window_in waiting ≡ Wait)) ⊎ IsClosed v
      → IsAnswer v.site_contents (v.came ++ waiting) v.sent
  well_answer v waiting (inl left) =
      subst (λ (l : List ℕ). IsAnswer v.site_contents (v.came ++ waiting) l) (append-nil v.sent)
      (follow.answer v.site_contents v.came waiting v.sent [] (left_whole v left.0)
      (waits_answer v.site_contents waiting left.1))
  well_answer v waiting (inr closed) = closed_answer v waiting closed
