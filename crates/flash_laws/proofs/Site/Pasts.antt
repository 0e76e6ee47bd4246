-- The history after one more event or choice.
use Rattle.std.proofs.Common.{◌≡◌, ℕ, List, [], ◌++◌, ap, ◌∙◌, refl, arith, true, false, Bool, append-nil, ◌∷◌, length}
use Rattle.std.proofs.Common.{length-append}
use Rattle.std.specs.Prelude.{◌||◌}
use Rattle.std.proofs.Math.Path.{fun_ext}
use Rattle.iol_laws.specs.History.{came_by, sent_by}
use Rattle.iol_core.specs.declared.refusals.Refusal.{Refusal}
use Rattle.iol_core.specs.declared.descriptors.How.{How}
use Rattle.iol_core.specs.declared.descriptors.How.TheVariants as how
use Rattle.iol_core.specs.declared.events.Call.{Call}
use Rattle.iol_core.specs.declared.events.Event.{Event}
use Rattle.iol_core.specs.declared.events.Event.TheVariants as event
use Rattle.iol_core.specs.declared.events.Reply.{Reply}
use Rattle.iol_core.specs.declared.events.Reply.TheVariants as reply
use Rattle.flash_laws.specs.Site.Past.{Past, made_by, gone_by, given_by, and_then}
use Rattle.iol_proc.specs.Histories.{stream_over, sent_over}
use Rattle.iol_proc.proofs.Streams.{stream_over-more, sent_over-more}
use Rattle.iol_proc.specs.declared.choice.Choice.{Choice}
use Rattle.iol_proc.specs.declared.choice.Choice.TheVariants as choice
use Rattle.flash_laws.specs.World.Consistency.{reports_with, reports_over, made_over, gone_over, given_over, past_of}

-- ---- events

pub past-equal : (p q : Past) → ((c : ℕ) → q.came c ≡ p.came c) → ((c : ℕ) → q.sent c ≡ p.sent c)
    → ((c : ℕ) → q.net c ≡ p.net c) → ((c : ℕ) → q.gone c ≡ p.gone c) → ((a : ℕ) → q.given a ≡ p.given a) → q ≡ p
past-equal p q came sent net gone given =
    ap (λ (f : ℕ → List ℕ). record { came = f; sent = q.sent; net = q.net; gone = q.gone; given = q.given })
    (fun_ext came)
    ∙ (ap (λ (f : ℕ → List ℕ). record { came = p.came; sent = f; net = q.net; gone = q.gone; given = q.given })
    (fun_ext sent)
    ∙ (ap (λ (f : ℕ → Bool). record { came = p.came; sent = p.sent; net = f; gone = q.gone; given = q.given })
    (fun_ext net)
    ∙ (ap (λ (f : ℕ → Bool). record { came = p.came; sent = p.sent; net = p.net; gone = f; given = q.given })
    (fun_ext gone)
    ∙ ap (λ (f : ℕ → Bool). record { came = p.came; sent = p.sent; net = p.net; gone = p.gone; given = f })
    (fun_ext given))))

pub or-false : (b c : Bool) → c ≡ false → (b || c) ≡ b
or-false true c is = refl
or-false false c is = is

-- an event by which no byte arrives or is sent, no connection is made, no peer is reported as gone, and the server is
-- given no aggregate
pub past-same : (p : Past) (e : Event) (r : Reply) → ((c : ℕ) → came_by c e r ≡ []) → ((c : ℕ)
    → sent_by c e r ≡ []) → ((c : ℕ) → made_by c e r ≡ false) → ((c : ℕ) → gone_by c e r ≡ false)
    → ((a : ℕ) → given_by a e r ≡ false) → and_then p e r ≡ p
past-same p e r came sent net gone given =
    past-equal p (and_then p e r)
    (λ c. ap (λ (l : List ℕ). p.came c ++ l) (came c) ∙ append-nil (p.came c))
    (λ c. ap (λ (l : List ℕ). p.sent c ++ l) (sent c) ∙ append-nil (p.sent c))
    (λ c. or-false (p.net c) (made_by c e r) (net c))
    (λ c. or-false (p.gone c) (gone_by c e r) (gone c))
    (λ a. or-false (p.given a) (given_by a e r) (given a))

-- a refused event reports no peer as gone
pub none-after_reply : (c z : ℕ) (w : How) (x : Refusal) → gone_by z (event.PeerClosed c w) (reply.Refused x) ≡ false
none-after_reply c z how.Done x = refl
none-after_reply c z how.Gone x = refl

-- the history after a peer closed
abbrev pub peer_after_reply : Past → (c : ℕ) → How → Past
peer_after_reply p c w =
    record {
      came = p.came;
      sent = p.sent;
      net = p.net;
      gone = λ z. p.gone z || gone_by z (event.PeerClosed c w) reply.Done;
      given = p.given;
    }

pub past-after_reply : (p : Past) (c : ℕ) (w : How)
    → and_then p (event.PeerClosed c w) reply.Done ≡ peer_after_reply p c w
past-after_reply p c w =
    past-equal (peer_after_reply p c w) (and_then p (event.PeerClosed c w) reply.Done)
    (λ z. append-nil (p.came z)) (λ z. append-nil (p.sent z)) (λ z. or-false (p.net z) false refl) (λ z. refl)
    (λ a. or-false (p.given a) false refl)

-- the history after a call
abbrev pub call_after_reply : Past → (d : ℕ) → Call → Reply → Past
call_after_reply p d k r =
    record {
      came = p.came;
      sent = p.sent;
      net = p.net;
      gone = p.gone;
      given = λ a. p.given a || given_by a (event.Call d k) r;
    }

pub past-called : (p : Past) (d : ℕ) (k : Call) (r : Reply) → and_then p (event.Call d k) r ≡ call_after_reply p d k r
past-called p d k r =
    past-equal (call_after_reply p d k r) (and_then p (event.Call d k) r)
    (λ c. append-nil (p.came c)) (λ c. append-nil (p.sent c)) (λ c. or-false (p.net c) false refl)
    (λ c. or-false (p.gone c) false refl) (λ a. refl)

-- ---- choices

or-none : (b : Bool) → (b || false) ≡ b
or-none true = refl
or-none false = refl

or-assoc : (a b c : Bool) → (a || (b || c)) ≡ ((a || b) || c)
or-assoc true b c = refl
or-assoc false b c = refl

after_reply-more : (p : Event → Reply → Bool) (xs : List Choice) (rs : List Reply) (x : Choice) (r : Reply)
    → length xs ≡ length rs
    → reports_over p (xs ++ x ∷ []) (rs ++ r ∷ []) ≡ (reports_over p xs rs || reports_with p x r)
unfolding reports_over
after_reply-more p [] [] x r even = or-none (reports_with p x r)
after_reply-more p (y ∷ xs) (s ∷ rs) x r even =
    ap (λ b. reports_with p y s || b) (after_reply-more p xs rs x r (omega (arith, even)))
    ∙ or-assoc (reports_with p y s) (reports_over p xs rs) (reports_with p x r)
after_reply-more p [] (s ∷ rs) x r even = absurd (omega (arith, even))
after_reply-more p (y ∷ xs) [] x r even = absurd (omega (arith, even))

pub past-outside : (xs : List Choice) (rs : List Reply) (e : Event) (r : Reply) → length xs ≡ length rs
    → past_of (xs ++ choice.Outside e ∷ []) (rs ++ r ∷ []) ≡ and_then (past_of xs rs) e r
unfolding made_over gone_over given_over
past-outside xs rs e r even =
    past-equal (and_then (past_of xs rs) e r) (past_of (xs ++ choice.Outside e ∷ []) (rs ++ r ∷ []))
    (λ c. stream_over-more xs rs (choice.Outside e) r c even) (λ c. sent_over-more xs rs (choice.Outside e) r c even)
    (λ c. after_reply-more (λ z l. made_by c z l) xs rs (choice.Outside e) r even)
    (λ c. after_reply-more (λ z l. gone_by c z l) xs rs (choice.Outside e) r even)
    (λ a. after_reply-more (λ z l. given_by a z l) xs rs (choice.Outside e) r even)

pub past-turn : (xs : List Choice) (rs : List Reply) (by : ℕ) (r : Reply) → length xs ≡ length rs
    → past_of (xs ++ choice.Turn by ∷ []) (rs ++ r ∷ []) ≡ past_of xs rs
unfolding made_over gone_over given_over
past-turn xs rs by r even =
    past-equal (past_of xs rs) (past_of (xs ++ choice.Turn by ∷ []) (rs ++ r ∷ []))
    (λ c. stream_over-more xs rs (choice.Turn by) r c even ∙ append-nil (stream_over c xs rs))
    (λ c. sent_over-more xs rs (choice.Turn by) r c even ∙ append-nil (sent_over c xs rs))
    (λ c. after_reply-more (λ z l. made_by c z l) xs rs (choice.Turn by) r even
    ∙ or-none (reports_over (λ z l. made_by c z l) xs rs))
    (λ c. after_reply-more (λ z l. gone_by c z l) xs rs (choice.Turn by) r even
    ∙ or-none (reports_over (λ z l. gone_by c z l) xs rs))
    (λ a. after_reply-more (λ z l. given_by a z l) xs rs (choice.Turn by) r even ∙ or-none (given_over a xs rs))

pub even-more : (xs : List Choice) (rs : List Reply) (x : Choice) (r : Reply) → length xs ≡ length rs
    → length (xs ++ x ∷ []) ≡ length (rs ++ r ∷ [])
even-more xs rs x r even = let a = length-append xs (x ∷ []) in let b = length-append rs (r ∷ []) in
    omega (arith, a, b, even)
