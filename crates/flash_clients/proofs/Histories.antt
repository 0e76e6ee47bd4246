-- Histories of a run and its continuation.
use Rattle.std.proofs.Common.{◌≡◌, ℕ, List, [], ◌∷◌, ◌++◌, length, ap, ◌∙◌, refl, sym, arith, true, false, Bool}
use Rattle.std.proofs.Common.{append_assoc}
use Rattle.std.specs.Prelude.{◌||◌}
use Rattle.std.specs.List.{list_any}
use Rattle.iol_core.specs.declared.descriptors.How.TheVariants.{Done, Gone}
use Rattle.iol_core.specs.declared.events.Event.{Event}
use Rattle.iol_core.specs.declared.events.Event.TheVariants as event
use Rattle.iol_core.specs.declared.events.Reply.{Reply}
use Rattle.iol_core.specs.declared.events.Reply.TheVariants as reply
use Rattle.iol_proc.specs.Histories.{stream_over, sent_over, came_with, sent_with, drops_with}
use Rattle.iol_proc.specs.declared.choice.Choice.{Choice}
use Rattle.iol_proc.specs.declared.choice.Choice.TheVariants as choice
use Rattle.flash_laws.specs.Site.Past.{gone_by}
use Rattle.flash_laws.specs.World.Consistency.{reports_with, reports_over}

pub stream-both : (c : ℕ) (xs ys : List Choice) (rs qs : List Reply) → length xs ≡ length rs
    → stream_over c (xs ++ ys) (rs ++ qs) ≡ stream_over c xs rs ++ stream_over c ys qs
unfolding stream_over
stream-both c [] ys [] qs even = refl
stream-both c (x ∷ xs) ys (r ∷ rs) qs even =
    ap (λ (l : List ℕ). came_with c x r ++ l) (stream-both c xs ys rs qs (omega (arith, even)))
    ∙ sym (append_assoc (came_with c x r) (stream_over c xs rs) (stream_over c ys qs))
stream-both c [] ys (r ∷ rs) qs even = absurd (omega (arith, even))
stream-both c (x ∷ xs) ys [] qs even = absurd (omega (arith, even))

pub sent-both : (c : ℕ) (xs ys : List Choice) (rs qs : List Reply) → length xs ≡ length rs
    → sent_over c (xs ++ ys) (rs ++ qs) ≡ sent_over c xs rs ++ sent_over c ys qs
unfolding sent_over
sent-both c [] ys [] qs even = refl
sent-both c (x ∷ xs) ys (r ∷ rs) qs even =
    ap (λ (l : List ℕ). sent_with c x r ++ l) (sent-both c xs ys rs qs (omega (arith, even)))
    ∙ sym (append_assoc (sent_with c x r) (sent_over c xs rs) (sent_over c ys qs))
sent-both c [] ys (r ∷ rs) qs even = absurd (omega (arith, even))
sent-both c (x ∷ xs) ys [] qs even = absurd (omega (arith, even))

-- disjunctions, for the reports of a run and of its continuation
or-none : (b c : Bool) → b ≡ false → c ≡ false → (b || c) ≡ false
or-none false c one two = two
or-none true c one two = absurd (cc (one))

or-both : (b c : Bool) → (b || c) ≡ false → (b ≡ false) × (c ≡ false)
or-both false c is = (refl, is)
or-both true c is = absurd (cc (is))

or-later : (a b c : Bool) → (a || b) ≡ true → (b ≡ true → c ≡ true) → (a || c) ≡ true
or-later true b c after_reply more = refl
or-later false b c after_reply more = more after_reply

pub reports-first : (p : Event → Reply → Bool) (xs ys : List Choice) (rs qs : List Reply) → length xs ≡ length rs
    → reports_over p xs rs ≡ true
    → reports_over p (xs ++ ys) (rs ++ qs) ≡ true
unfolding reports_over
reports-first p [] ys rs qs even after_reply = absurd (cc (after_reply))
reports-first p (x ∷ xs) ys [] qs even after_reply = absurd (cc (after_reply))
reports-first p (x ∷ xs) ys (r ∷ rs) qs even after_reply =
    or-later (reports_with p x r) (reports_over p xs rs) (reports_over p (xs ++ ys) (rs ++ qs)) after_reply
    (λ more. reports-first p xs ys rs qs (omega (arith, even)) more)

pub reports-none : (p : Event → Reply → Bool) (xs ys : List Choice) (rs qs : List Reply) → length xs ≡ length rs
    → reports_over p xs rs ≡ false
    → reports_over p ys qs ≡ false → reports_over p (xs ++ ys) (rs ++ qs) ≡ false
unfolding reports_over
reports-none p [] ys [] qs even none more = more
reports-none p (x ∷ xs) ys (r ∷ rs) qs even none more =
    let both = or-both (reports_with p x r) (reports_over p xs rs) none in
    or-none (reports_with p x r) (reports_over p (xs ++ ys) (rs ++ qs)) both.0
    (reports-none p xs ys rs qs (omega (arith, even)) both.1 more)
reports-none p [] ys (r ∷ rs) qs even none more = absurd (omega (arith, even))
reports-none p (x ∷ xs) ys [] qs even none more = absurd (omega (arith, even))

-- a choice that does not drop a connection does not report that its peer is gone
after_reply-drops : (c : ℕ) (x : Choice) (r : Reply) → drops_with x c ≡ false
    → reports_with (λ e s. gone_by c e s) x r ≡ false
after_reply-drops c (choice.Turn by) r none = refl
after_reply-drops c (choice.Outside (event.PeerClosed d Gone)) reply.Done none = none
after_reply-drops c (choice.Outside (event.PeerClosed d Gone)) r none = refl
after_reply-drops c (choice.Outside (event.PeerClosed d Done)) r none = refl
after_reply-drops c (choice.Outside e) r none = refl

pub none-after_reply : (c : ℕ) (xs : List Choice) (rs : List Reply) → list_any (λ x. drops_with x c) xs ≡ false
    → reports_over (λ e r. gone_by c e r) xs rs ≡ false
unfolding reports_over
none-after_reply c [] rs none = refl
none-after_reply c (x ∷ xs) [] none = refl
none-after_reply c (x ∷ xs) (r ∷ rs) none =
    let both = or-both (drops_with x c) (list_any (λ y. drops_with y c) xs) none in
    or-none (reports_with (λ e s. gone_by c e s) x r) (reports_over (λ e s. gone_by c e s) xs rs)
    (after_reply-drops c x r both.0) (none-after_reply c xs rs both.1)
