-- The effect of calls of another domain on a pipe.
use Rattle.std.proofs.Common.{inl, inr, ◌≡◌, ◌≢◌, ℕ, ◌==◌, [], ◌++◌, take, ap, ◌∙◌, refl, sym, subst, arith}
use Rattle.std.proofs.Common.{append_assoc, Option, Some, true, false, Bool}
use Rattle.std.specs.Prelude.{unwrap_or, ◌||◌}
use Rattle.std.specs.List.{list_any}
use Rattle.std.proofs.lemmas.Bool.{cases_eq}
use Rattle.std.proofs.lemmas.Bool.Decides.{nat_tests}
use Rattle.std.proofs.lemmas.List.{append-nil, take-append-drop}
use Rattle.iol_core.specs.Text.{Text}
use Rattle.iol_core.specs.NumberedLists.{in_place, lowest}
use Rattle.iol_core.specs.State.{State, Pipe, descriptor, pipe_at, no_pipe, with_domain, with_pipe, with_conn}
use Rattle.iol_core.specs.State.{with_content}
use Rattle.iol_core.specs.Run.{called, StepsTo}
use Rattle.iol_core.specs.declared.descriptors.Descriptor.{Descriptor}
use Rattle.iol_core.specs.declared.descriptors.Descriptor.TheVariants as on
use Rattle.iol_core.specs.declared.events.Call.{Call}
use Rattle.iol_core.specs.declared.events.Call.TheVariants as call
use Rattle.iol_core.specs.declared.events.Event.TheVariants as event
use Rattle.iol_core.specs.declared.events.Reply.{Reply}
use Rattle.iol_core.specs.declared.events.Reply.TheVariants as reply
use Rattle.iol_laws.specs.Frame.{is_end, operands, touches_pipe}
use Rattle.iol_laws.specs.Others.{HasNotEnd, StaysUnread, GoesFromFront}
use Rattle.iol_laws.proofs.Changes.{Act, Change, OfPipe, OnPipe, NewPipe, Takes, Puts, EndsReads, EndsWrites, Reads}
use Rattle.iol_laws.proofs.Changes.{Writes, changed, ends-used, kept_called, none_handed, operands-none, own, used_as}
use Rattle.iol_laws.proofs.Frame.Pipes.{pipes_pipe, pipes_same}
use Rattle.iol_laws.proofs.Frame.Steps.{leaves_step}
use Rattle.iol_laws.proofs.Order.Closes.{is_read_end, is_write_end, not-reading, not-writing}
use Rattle.iol_laws.proofs.Order.Ends.{pipe-other, pipe-with_same}
use Rattle.iol_laws.proofs.Places.{lowest-free}
use Rattle.iol_laws.proofs.Tests.{apart, both-false, left-true, right-true}

abbrev IsOpen : State → (p : ℕ) → Type 0
IsOpen s p = ((pipe_at s p).reading || (pipe_at s p).writing) ≡ true

-- the number of an open pipe is not that of the next one
not-next : (s : State) (p : ℕ) → IsOpen s p → lowest s.pipes ≢ p
unfolding pipe_at
not-next s p lives same =
    (let e = ap (λ (o : Option Pipe). (unwrap_or o no_pipe).reading || (unwrap_or o no_pipe).writing)
    (sym (ap (λ n. in_place s.pipes n) same) ∙ lowest-free s.pipes) in cc (e, lives))

-- A property of an open pipe that depends only on this pipe is preserved by calls of a domain without the end that may
-- change it.
module _ (p : ℕ) (Holds : State → Type 0) (lives : (t : State) → Holds t → IsOpen t p) (goes : (t u : State)
    → pipe_at u p ≡ pipe_at t p → Holds t → Holds u)
    (test : Change → Bool) (on_it : (t : State) (x : OfPipe) → test (OnPipe p x) ≡ false → Holds t
    → Holds (changed t (OnPipe p x)))
    (is_it : Option Descriptor → Bool) (unused : (s : State) (by fd : ℕ) (o : Option Descriptor) (act : Act)
    → is_it o ≡ false → list_any test (used_as s by fd o act) ≡ false)
    (first : (s : State) (d : ℕ) (k : Call) → list_any test (own s d k) ≡ false) where
  holds_changed : (t : State) (c : Change) → test c ≡ false → Holds t → Holds (changed t c)
  unfolding with_domain with_conn with_content
  holds_changed t (OnPipe q x) un was = elim (cases_eq q p) [
    | inr differ ↦ goes t _ (pipes_pipe t q _ p differ) was
    | inl same ↦
        subst (λ n. Holds (changed t (OnPipe n x))) (sym same)
        (on_it t x (subst (λ n. test (OnPipe n x) ≡ false) same un) was)
  ]
  holds_changed t NewPipe un was = goes t _ (pipe-other t p (not-next t p (lives t was))) was
  holds_changed t c un was = goes t (changed t c) (pipes_same t (changed t c) (λ q. false) refl p refl) was

  holds_called : (s : State) (d : ℕ) (k : Call) → ((fd : ℕ) → is_it (descriptor s d fd) ≡ false) → Holds s
      → Holds (called s d k).after
  holds_called s d k never here =
      kept_called Holds test holds_changed s d k (λ u. is_it u.end) (λ u none. unused s u.by u.fd u.end u.act none)
      (ends-used is_it s d k (operands-none is_it s d k never)) (first s d k) here

  holds_after : (s t : State) (d : ℕ) (k : Call) (r : Reply) → StepsTo s (event.Call d k) r t
      → ((fd : ℕ) → is_it (descriptor s d fd) ≡ false) → Holds s → Holds t
  holds_after s t d k (reply.Refused x) step never here = subst Holds (sym step.1) here
  holds_after s t d k r step never here = subst Holds (sym step.2) (holds_called s d k never here)

-- Unread bytes remain, if the domain does not have the read end.

abbrev takes_from : (p : ℕ) → Change → Bool
takes_from p (OnPipe q (Takes n)) = q == p
takes_from p (OnPipe q EndsReads) = q == p
takes_from p c = false

take_unused : (p : ℕ) (s : State) (by fd : ℕ) (o : Option Descriptor) (act : Act) → is_read_end p o ≡ false
    → list_any (takes_from p) (used_as s by fd o act) ≡ false
take_unused p s by fd (Some (on.File f at mode)) (Writes w) un = refl
take_unused p s by fd (Some (on.ReadEnd q)) (Writes w) un = refl
take_unused p s by fd (Some (on.ReadEnd q)) act un = both-false _ _ un refl
take_unused p s by fd (Some (on.WriteEnd q)) (Writes w) un = refl
take_unused p s by fd o act un = refl

unread_goes : (s : State) (p : ℕ) (t u : State) → pipe_at u p ≡ pipe_at t p → StaysUnread s p t → StaysUnread s p u
unread_goes s p t u same stays =
    record {
      more = stays.more;
      queue = ap (λ (k : Pipe). k.queue) same ∙ stays.queue;
      reading =
          ap (λ (k : Pipe). k.reading) same ∙ stays.reading;
    }

unread_on : (s : State) (p : ℕ) (t : State) (x : OfPipe) → takes_from p (OnPipe p x) ≡ false → StaysUnread s p t
    → StaysUnread s p (changed t (OnPipe p x))
unread_on s p t (Takes n) un was = absurd (apart p p un refl)
unread_on s p t EndsReads un was = absurd (apart p p un refl)
unread_on s p t (Puts w) un was =
    let lives = left-true (pipe_at t p).reading (pipe_at t p).writing was.reading in
    let e = pipe-with_same t p (record (pipe_at t p) { queue = (pipe_at t p).queue ++ w }) lives lives in
    record {
      more = was.more ++ w;
      queue = ap (λ (k : Pipe). k.queue) e
          ∙ (ap (λ (l : Text). l ++ w) was.queue ∙ append_assoc (pipe_at s p).queue was.more w);
      reading =
          ap (λ (k : Pipe). k.reading) e ∙ was.reading;
    }
unread_on s p t EndsWrites un was =
    let e =
    pipe-with_same t p (record (pipe_at t p) { writing = false })
    (left-true (pipe_at t p).reading (pipe_at t p).writing was.reading)
    (left-true (pipe_at t p).reading false was.reading) in
    record {
      more = was.more;
      queue = ap (λ (k : Pipe). k.queue) e ∙ was.queue;
      reading = ap (λ (k : Pipe). k.reading) e
          ∙ was.reading;
    }

pub others_unread : (s t : State) (d : ℕ) (k : Call) (r : Reply) (p : ℕ) → StepsTo s (event.Call d k) r t
    → HasNotEnd s d (on.ReadEnd p) → (pipe_at s p).reading ≡ true → StaysUnread s p t
others_unread s t d k r p step never reads =
    holds_after p (StaysUnread s p) (λ t has. left-true (pipe_at t p).reading (pipe_at t p).writing has.reading)
    (unread_goes s p) (takes_from p) (unread_on s p) (is_read_end p) (take_unused p) take_first
    s t d k r step (λ fd. not-reading p (descriptor s d fd) (never fd))
    (record { more = []; queue = sym (append-nil (pipe_at s p).queue); reading = reads })
  where
    take_first : (s : State) (d : ℕ) (k : Call) → list_any (takes_from p) (own s d k) ≡ false
    take_first s d (call.GiveFd fd to) = none_handed (takes_from p) d fd to (descriptor s d fd) refl (λ x. refl)
    take_first s d k = refl

-- No bytes are added, if the domain does not have the write end.

abbrev adds_to : (p : ℕ) → Change → Bool
adds_to p (OnPipe q (Puts w)) = q == p
adds_to p (OnPipe q EndsWrites) = q == p
adds_to p c = false

add_unused : (p : ℕ) (s : State) (by fd : ℕ) (o : Option Descriptor) (act : Act) → is_write_end p o ≡ false
    → list_any (adds_to p) (used_as s by fd o act) ≡ false
add_unused p s by fd (Some (on.File f at mode)) (Writes w) un = refl
add_unused p s by fd (Some (on.ReadEnd q)) (Writes w) un = refl
add_unused p s by fd (Some (on.WriteEnd q)) (Reads n) un = refl
add_unused p s by fd (Some (on.WriteEnd q)) act un = both-false _ _ un refl
add_unused p s by fd o act un = refl

written_goes : (s : State) (p : ℕ) (t u : State) → pipe_at u p ≡ pipe_at t p → GoesFromFront s p t → GoesFromFront s p u
written_goes s p t u same went =
    record {
      gone = went.gone;
      queue = went.queue ∙ ap (λ (k : Pipe). went.gone ++ k.queue) (sym same);
      writing =
          ap (λ (k : Pipe). k.writing) same ∙ went.writing;
    }

-- bytes are taken from the front
written_less : (s : State) (p : ℕ) (t : State) (x : Pipe) (gone : Text) → (pipe_at t p).queue ≡ gone ++ x.queue
    → x.writing ≡ (pipe_at t p).writing → GoesFromFront s p t → GoesFromFront s p (with_pipe t p x)
written_less s p t x gone split same went =
    let lives = right-true (pipe_at t p).reading (pipe_at t p).writing went.writing in
    let e = pipe-with_same t p x lives (right-true x.reading x.writing (same ∙ went.writing)) in
    record {
      gone = went.gone ++ gone;
      queue = went.queue ∙ (ap (λ (l : Text). went.gone ++ l) split ∙ sym (append_assoc went.gone gone x.queue))
          ∙ ap (λ (k : Pipe). (went.gone ++ gone) ++ k.queue) (sym e);
      writing = ap (λ (k : Pipe). k.writing) e ∙ (same ∙ went.writing);
    }

written_on : (s : State) (p : ℕ) (t : State) (x : OfPipe) → adds_to p (OnPipe p x) ≡ false → GoesFromFront s p t
    → GoesFromFront s p (changed t (OnPipe p x))
written_on s p t (Puts w) un went = absurd (apart p p un refl)
written_on s p t EndsWrites un went = absurd (apart p p un refl)
written_on s p t (Takes n) un went =
    written_less s p t _ (take n (pipe_at t p).queue) (sym (take-append-drop n (pipe_at t p).queue)) refl went
written_on s p t EndsReads un went =
    written_less s p t _ (pipe_at t p).queue (sym (append-nil (pipe_at t p).queue)) refl went

pub others_written : (s t : State) (d : ℕ) (k : Call) (r : Reply) (p : ℕ) → StepsTo s (event.Call d k) r t
    → HasNotEnd s d (on.WriteEnd p) → (pipe_at s p).writing ≡ true → GoesFromFront s p t
others_written s t d k r p step never writes =
    holds_after p (GoesFromFront s p) (λ t has. right-true (pipe_at t p).reading (pipe_at t p).writing has.writing)
    (written_goes s p) (adds_to p) (written_on s p) (is_write_end p) (add_unused p) add_first
    s t d k r step (λ fd. not-writing p (descriptor s d fd) (never fd))
    (record { gone = []; queue = refl; writing = writes })
  where
    add_first : (s : State) (d : ℕ) (k : Call) → list_any (adds_to p) (own s d k) ≡ false
    add_first s d (call.GiveFd fd to) = none_handed (adds_to p) d fd to (descriptor s d fd) refl (λ x. refl)
    add_first s d k = refl

-- A pipe of which the domain has no end.

neither : (p : ℕ) (o : Option Descriptor) → (o ≡ Some (on.ReadEnd p) → ⊥) → (o ≡ Some (on.WriteEnd p) → ⊥)
    → is_end p o ≡ false
neither p (Some (on.ReadEnd q)) no_read no_write = not-reading p (Some (on.ReadEnd q)) no_read
neither p (Some (on.WriteEnd q)) no_read no_write = not-writing p (Some (on.WriteEnd q)) no_write
neither p o no_read no_write = refl

unmade : (s : State) (d : ℕ) (k : Call) (p : ℕ) → IsOpen s p → list_any (is_end p) (operands s (event.Call d k)) ≡ false
    → touches_pipe s (event.Call d k) p ≡ false
unmade s d call.Pipe p lives none = (let differ = not-next s p lives in grind (arith, nat_tests, differ))
unmade s d k p lives none = both-false _ _ none refl

pub others_pipe : (s t : State) (d : ℕ) (k : Call) (r : Reply) (p : ℕ) → StepsTo s (event.Call d k) r t
    → HasNotEnd s d (on.ReadEnd p) → HasNotEnd s d (on.WriteEnd p)
    → ((pipe_at s p).reading || (pipe_at s p).writing) ≡ true → pipe_at t p ≡ pipe_at s p
others_pipe s t d k r p step no_read no_write lives =
    (leaves_step s t (event.Call d k) r step).pipes p
    (unmade s d k p lives
    (operands-none (is_end p) s d k (λ fd. neither p (descriptor s d fd) (no_read fd) (no_write fd))))
