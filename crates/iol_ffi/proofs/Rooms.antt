-- An event takes at most the bytes that it requests, so they fit if there is room for those.
use Rattle.std.proofs.Common.{inl, inr, ◌≡◌, ◌≤◌, Bool, ℕ, zero, suc, List, [], ◌∷◌, length, take, drop, Option, None}
use Rattle.std.proofs.Common.{Some, refl, sym, ap, ◌∙◌, subst, arith}
use Rattle.std.specs.List.{prefix_len}
use Rattle.iol_core.specs.Meaning.{Step}
use Rattle.iol_core.specs.Run.{meaning, outcome}
use Rattle.iol_core.specs.State.{State, conn_at, content, descriptor, file, may_read}
use Rattle.iol_core.specs.Text.{Text, admitted, bytes_of, labelled}
use Rattle.iol_core.specs.Calls.Reads.{read_text, unread}
use Rattle.iol_core.specs.declared.descriptors.Descriptor.{Descriptor}
use Rattle.iol_core.specs.declared.descriptors.Descriptor.TheVariants as on
use Rattle.iol_core.specs.declared.events.Event.{Event}
use Rattle.iol_core.specs.declared.events.Reply.{Reply}
use Rattle.iol_core.specs.declared.events.Reply.TheVariants as reply
use Rattle.iol_core.specs.declared.refusals.Refusal.{Refusal}
use Rattle.iol_core.specs.declared.refusals.Refusal.TheVariants as refusal
use Rattle.iol_kernel.specs.FileCalls.{with_slots}
use Rattle.iol_system.specs.Machine.{SystemState}
use Rattle.iol_system.specs.Promises.{Promises}
use Rattle.iol_ffi.specs.Replies.{Encodes, ReturnsBytes, number_of}
use Rattle.iol_ffi.specs.Room.{TakesBytes, most_bytes}
use Rattle.iol_ffi.specs.declared.replies.IolReply.{IolReply}

length_bytes : (t : Text) → length (bytes_of t) ≡ length t
length_bytes [] = refl
length_bytes (x ∷ t) = ap suc (length_bytes t)

length_labelled : (p : ℕ) (bytes : List ℕ) → length (labelled p bytes) ≡ length bytes
length_labelled p [] = refl
length_labelled p (x ∷ bytes) = ap suc (length_labelled p bytes)

short_prefix : {A : Type 0} (k : ℕ) (xs : List A) → length (take k xs) ≤ k
short_prefix zero xs = omega arith
short_prefix (suc k) [] = omega arith
short_prefix (suc k) (x ∷ xs) = let e = short_prefix k xs in omega (arith, e)

short_both : {A : Type 0} (j k : ℕ) (xs : List A) → length (take j (take k xs)) ≤ k
short_both zero k xs = omega arith
short_both (suc j) zero xs = omega arith
short_both (suc j) (suc k) [] = omega arith
short_both (suc j) (suc k) (x ∷ xs) = let e = short_both j k xs in omega (arith, e)

le_of : (a b n : ℕ) → a ≡ b → b ≤ n → a ≤ n
le_of a b n same few = omega (arith, same, few)

queue_most : (may : ℕ → Bool) (n : ℕ) (t : Text) → length (bytes_of (admitted may (take n t))) ≤ n
queue_most may n t =
    le_of _ _ n (length_bytes (admitted may (take n t))) (short_both (prefix_len (λ x. may x.1) (take n t)) n t)

file_most : (p n at : ℕ) (bytes : List ℕ) → length (bytes_of (labelled p (take n (drop at bytes)))) ≤ n
file_most p n at bytes =
    let part = take n (drop at bytes) in
    le_of _ _ n (length_bytes (labelled p part) ∙ length_labelled p part) (short_prefix n (drop at bytes))

sent_most : (n : ℕ) (t : Text) → length (bytes_of (take n t)) ≤ n
sent_most n t = le_of _ _ n (length_bytes (take n t)) (short_prefix n t)

read_most : (s : State) (by : ℕ) (o : Option Descriptor) (n : ℕ) → length (bytes_of (read_text s by o n)) ≤ n
read_most s by None n = queue_most (may_read s by) n (unread s None)
read_most s by (Some (on.File f at mode)) n = file_most (file s f).pool n at (content s f)
read_most s by (Some (on.ReadEnd p)) n = queue_most (may_read s by) n (unread s (Some (on.ReadEnd p)))
read_most s by (Some (on.WriteEnd p)) n = queue_most (may_read s by) n (unread s (Some (on.WriteEnd p)))
read_most s by (Some (on.Connection c)) n = queue_most (may_read s by) n (unread s (Some (on.Connection c)))

-- the bytes in a reply
abbrev bytes_in : Reply → List ℕ
bytes_in (reply.Bytes bs) = bs
bytes_in (reply.Segment bs sum) = bs
bytes_in r = []

most : (s : State) (e : Event) → TakesBytes e → length (bytes_in (meaning s e).answer) ≤ most_bytes e
most s e (inl (by, fd, n, is)) =
    subst (λ (x : Event). length (bytes_in (meaning s x).answer) ≤ most_bytes x) (sym is)
    (read_most s by (descriptor s by fd) n)
most s e (inr (c, n, is)) =
    subst (λ (x : Event). length (bytes_in (meaning s x).answer) ≤ most_bytes x) (sym is)
    (sent_most n (conn_at s c).outgoing)

-- the copying machine has a step with this reply, between two states
record Answered (e : Event) (r : Reply) : Type 0 where
  before : State
  after : State
  step : Step (meaning before e) before (outcome r) after

answered : (old new : SystemState) (e : Event) (r : Reply) → Promises old e r new → Answered e r
answered old new e r p =
    record {
      before = with_slots p.beside.before old.kernel;
      after = with_slots p.beside.after new.kernel;
      step = p.beside.step;
    }

no_such : (why : Refusal) → number_of why ≡ 101 → ⊥
no_such refusal.NoDomain is = omega (arith, is)
no_such refusal.BadFd is = omega (arith, is)
no_such refusal.BadAgg is = omega (arith, is)
no_such refusal.NoPool is = omega (arith, is)
no_such refusal.NoFile is = omega (arith, is)
no_such refusal.WrongMode is = omega (arith, is)
no_such refusal.BadRange is = omega (arith, is)
no_such refusal.TooLong is = omega (arith, is)
no_such refusal.TooMany is = omega (arith, is)
no_such (refusal.Denied p) is = omega (arith, is)
no_such (refusal.PoolClosed p) is = omega (arith, is)
no_such (refusal.PoolBusy p) is = omega (arith, is)
no_such refusal.BrokenPipe is = omega (arith, is)
no_such refusal.WouldBlock is = omega (arith, is)
no_such (refusal.NoRoom p) is = omega (arith, is)
no_such (refusal.Fault f) is = omega (arith, is)
no_such refusal.Memory is = omega (arith, is)

done_not : (refused : ℕ) → refused ≡ 0 → refused ≡ 101 → ⊥
done_not n zero_it is = omega (arith, zero_it, is)

-- bytes for which there is room are returned
bytes_fit : (bs : List ℕ) (m : ℕ) (r : IolReply) (out : List ℕ) (bound : ℕ) → length bs ≤ bound → bound ≤ length out
    → ReturnsBytes bs m r out → r.refusal ≡ 101 → ⊥
bytes_fit bs m r out bound few room (inl (done, same)) is = done_not r.refusal done.0 is
bytes_fit bs m r out bound few room (inr (refused, number, short)) is = omega (arith, few, room, short)

fits_in : (e : Event) (x : Reply) (r : IolReply) (out : List ℕ) → Answered e x → Encodes x r out
    → most_bytes e ≤ length out → TakesBytes e → r.refusal ≡ 101 → ⊥
fits_in e reply.Done r out a en room t is = done_not r.refusal en.0 is
fits_in e (reply.Domain d) r out a en room t is = done_not r.refusal en.0 is
fits_in e (reply.Pool p) r out a en room t is = done_not r.refusal en.0 is
fits_in e (reply.File f) r out a en room t is = done_not r.refusal en.0 is
fits_in e (reply.Conn c) r out a en room t is = done_not r.refusal en.0 is
fits_in e (reply.Fd fd) r out a en room t is = done_not r.refusal en.0 is
fits_in e (reply.Fds x y) r out a en room t is = done_not r.refusal en.0 is
fits_in e (reply.Agg x) r out a en room t is = done_not r.refusal en.0 is
fits_in e (reply.Aggs x y) r out a en room t is = done_not r.refusal en.0 is
fits_in e (reply.Count n) r out a en room t is = done_not r.refusal en.0 is
fits_in e (reply.Bytes bs) r out a en room t is =
    bytes_fit bs 0 r out (most_bytes e) (subst (λ (l : List ℕ). length l ≤ most_bytes e) (sym (ap bytes_in a.step.1))
    (most a.before e t)) room en is
fits_in e (reply.Segment bs sum) r out a en room t is =
    bytes_fit bs sum r out (most_bytes e) (subst (λ (l : List ℕ). length l ≤ most_bytes e) (sym (ap bytes_in a.step.1))
    (most a.before e t)) room en is
fits_in e (reply.Refused why) r out a en room t is = no_such why (sym en.0 ∙ is)

pub fits : (old new : SystemState) (e : Event) (x : Reply) (r : IolReply) (out : List ℕ) → Promises old e x new
    → Encodes x r out → most_bytes e ≤ length out → TakesBytes e → r.refusal ≡ 101 → ⊥
fits old new e x r out p en room = fits_in e x r out (answered old new e x p) en room
