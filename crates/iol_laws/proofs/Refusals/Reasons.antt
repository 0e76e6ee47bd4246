-- The reasons for refusals.
use Rattle.std.proofs.Common.{inl, inr, zero, suc, ◌≡◌, ℕ, ◌≤◌, ◌==◌, List, [], ◌∷◌, length, take, ap, ◌∙◌, refl, sym}
use Rattle.std.proofs.Common.{subst, arith, Option, Some, None, true, false, Bool}
use Rattle.std.specs.Prelude.{option_map, unwrap_or, not, is_none, min, nat_lt, find, ◌&&◌, ◌-◌, MatchOption}
use Rattle.std.proofs.lemmas.Bool.{cases_eq}
use Rattle.std.proofs.lemmas.Bool.Decides.{nat_tests}
use Rattle.std.proofs.lemmas.Grind.{common_steps}
use Rattle.iol_core.specs.Text.{Text, barred}
use Rattle.iol_core.specs.NumberedLists.{lookup}
use Rattle.iol_core.specs.State.{State, Connection, aggregate, is_live, descriptor, text, may_read, conn_at, pipe_at}
use Rattle.iol_core.specs.State.{is_gone}
use Rattle.iol_core.specs.Meaning.{first, ◌when◌, Never}
use Rattle.iol_core.specs.Run.{StepsTo}
use Rattle.iol_core.specs.Calls.Descriptors as fds
use Rattle.iol_core.specs.Calls.Reads as reading
use Rattle.iol_core.specs.Calls.Writes as writing
use Rattle.iol_core.specs.declared.limits.TheConstants.{MAX_QUEUE_BYTES}
use Rattle.iol_core.specs.declared.refusals.Refusal.{Refusal}
use Rattle.iol_core.specs.declared.refusals.Refusal.TheVariants as refuse
use Rattle.iol_core.specs.declared.descriptors.Descriptor.{Descriptor}
use Rattle.iol_core.specs.declared.descriptors.Descriptor.TheVariants as on
use Rattle.iol_core.specs.declared.events.Call.TheVariants as call
use Rattle.iol_core.specs.declared.events.Event.TheVariants as event
use Rattle.iol_core.specs.declared.events.Reply.{Reply}
use Rattle.iol_core.specs.declared.events.Reply.TheVariants as reply
use Rattle.iol_laws.specs.Caller.{readable_at}
use Rattle.iol_laws.specs.Reasons.{IsHidden}
use Rattle.iol_laws.proofs.Connections.{conn-found, conn-unmade}
use Rattle.iol_laws.proofs.Numbers.{agg-there}
use Rattle.iol_laws.proofs.Refusals.Rest.{past, past-live}
use Rattle.iol_laws.proofs.Tests.{not-true}

-- a refusal that is not late is the first that applies
pub said : (o : Option Refusal) (x : Refusal) → MatchOption o ⊥ (λ y. x ≡ y) → o ≡ Some x
said None x never = absurd never
said (Some y) x is = ap (λ z. Some z) (sym is)

-- a refusal of a list other than its head is one of the rest
pub other : (o : Option Refusal) (rest : List (Option Refusal)) (x : Refusal) → (o ≡ Some x → ⊥)
    → first (o ∷ rest) ≡ Some x → first rest ≡ Some x
other None rest x differ is = is
other (Some y) rest x differ is = absurd (differ is)

-- a refusal of a list other than those of the rest is its head
pub this : (o : Option Refusal) (rest : List (Option Refusal)) (x : Refusal) → (first rest ≡ Some x → ⊥)
    → first (o ∷ rest) ≡ Some x → o ≡ Some x
this None rest x never is = absurd (never is)
this (Some y) rest x never is = is

pub when-some : (x : Refusal) (b : Bool) → (x when b) ≡ Some x → b ≡ true
when-some x true is = refl
when-some x false is = absurd (cc)

pub when-differs : (y x : Refusal) (b : Bool) → (y ≡ x → ⊥) → (y when b) ≡ Some x → ⊥
when-differs y x true differ is = differ (some y x is)
  where
    some : (y x : Refusal) → Some y ≡ Some x → y ≡ x
    some y x is = ap (λ (o : Option Refusal). unwrap_or o y) is
when-differs y x false differ is = cc

-- Reading.

-- a refusal for access to a queue is Denied, with the pool of the first byte
denied-first : (may : ℕ → Bool) (n : ℕ) (q : Text) (x : Refusal)
    → option_map refuse.Denied (barred may (take (min n 1) q)) ≡ Some x → (p : ℕ) × (x ≡ refuse.Denied p) × (b : ℕ)
    × (rest : Text) × (q ≡ (b, p) ∷ rest) × (may p ≡ false)
denied-first may n q x is = by (min n 1) one q is
  where
    one : min n 1 ≤ 1
    one = grind (arith, nat_tests)

    by : (k : ℕ) → k ≤ 1 → (q : Text) → option_map refuse.Denied (barred may (take k q)) ≡ Some x
        → (p : ℕ) × (x ≡ refuse.Denied p) × (b : ℕ) × (rest : Text) × (q ≡ (b, p) ∷ rest) × (may p ≡ false)
    by zero few q is = absurd (cc)
    by (suc k) few [] is = absurd (cc)
    by (suc k) few (b ∷ q) is = here (may b.1) refl
      where
        k_is : k ≡ 0
        k_is = omega (arith, few)

        found : option_map refuse.Denied (barred may (b ∷ [])) ≡ Some x
        found = sym (ap (λ m. option_map refuse.Denied (barred may (b ∷ take m q))) k_is) ∙ is

        here : (m : Bool) → may b.1 ≡ m → (p : ℕ) × (x ≡ refuse.Denied p) × (c : ℕ) × (rest : Text)
            × (b ∷ q ≡ (c, p) ∷ rest) × (may p ≡ false)
        here true may_is = absurd (let e : barred may (b ∷ []) ≡ None = grind (arith, common_steps, may_is) in let f =
            ap (λ (o : Option ℕ). option_map refuse.Denied o) e in cc (f, found))
        here false may_is =
            let e : barred may (b ∷ []) ≡ Some b.1 = grind (arith, common_steps, may_is) in
            let x_is : refuse.Denied b.1 ≡ x =
            ap (λ (o : Option Refusal). unwrap_or o x) (sym (ap (λ (o : Option ℕ). option_map refuse.Denied o) e)
            ∙ found) in
            (b.1, sym x_is, b.0, q, refl, may_is)

-- a refusal of a read of a queue other than NoDomain, BadFd, WrongMode and TooMany is one by its bytes
queue-said : (s : State) (d n : ℕ) (o : Option Descriptor) (live gone wrong many : Bool) (x : Refusal)
    → (refuse.NoDomain ≡ x → ⊥) → (refuse.BadFd ≡ x → ⊥) → (refuse.WrongMode ≡ x → ⊥) → (refuse.TooMany ≡ x → ⊥)
    → first ((refuse.NoDomain when live) ∷ (refuse.BadFd when gone) ∷ (refuse.WrongMode when wrong)
    ∷ (refuse.TooMany when many) ∷ reading.read_denied s d o n ∷ (refuse.WouldBlock when reading.must_wait s o n)
    ∷ []) ≡ Some x
    → first (reading.read_denied s d o n ∷ (refuse.WouldBlock when reading.must_wait s o n) ∷ []) ≡ Some x
queue-said s d n o live gone wrong many x a b c e is =
    let rest = reading.read_denied s d o n ∷ (refuse.WouldBlock when reading.must_wait s o n) ∷ [] in
    other (refuse.TooMany when many) rest x (when-differs refuse.TooMany x many e)
    (other (refuse.WrongMode when wrong) ((refuse.TooMany when many) ∷ rest) x (when-differs refuse.WrongMode x wrong c)
    (other (refuse.BadFd when gone) ((refuse.WrongMode when wrong) ∷ (refuse.TooMany when many) ∷ rest) x
    (when-differs refuse.BadFd x gone b)
    (other (refuse.NoDomain when live) ((refuse.BadFd when gone) ∷ (refuse.WrongMode when wrong)
    ∷ (refuse.TooMany when many) ∷ rest) x (when-differs refuse.NoDomain x live a) is)))

-- a read has to wait only if the queue is empty and more bytes can come
waits-empty : (n : ℕ) (q : Text) (more : Bool) → (nat_lt 0 n && (length q == 0) && more) ≡ true
    → (q ≡ []) × (more ≡ true)
waits-empty n [] more is = (refl, grind (arith, is))
waits-empty n (b ∷ q) more is = absurd (let e : (length (b ∷ q) == 0) ≡ false = grind (arith, nat_tests) in
    grind (arith, is, e))

nothing-yet : (s : State) (d n : ℕ) (q : Text) (more : Bool)
    → first (option_map refuse.Denied (barred (may_read s d) (take (min n 1) q))
    ∷ (refuse.WouldBlock when (nat_lt 0 n && (length q == 0) && more)) ∷ []) ≡ Some refuse.WouldBlock
    → (q ≡ []) × (more ≡ true)
nothing-yet s d n q more is =
    let denied = option_map refuse.Denied (barred (may_read s d) (take (min n 1) q)) in
    let wait = nat_lt 0 n && (length q == 0) && more in
    let last =
    other denied ((refuse.WouldBlock when wait) ∷ []) refuse.WouldBlock
    (λ e. (let r = denied-first (may_read s d) n q refuse.WouldBlock e in let f = r.1 in cc)) is in
    waits-empty n q more
    (when-some refuse.WouldBlock wait (this (refuse.WouldBlock when wait) [] refuse.WouldBlock (λ e. cc) last))

hidden : (s : State) (d n p : ℕ) (q : Text) (wait : Bool)
    → first (option_map refuse.Denied (barred (may_read s d) (take (min n 1) q)) ∷ (refuse.WouldBlock when wait) ∷ [])
    ≡ Some (refuse.Denied p) → IsHidden s d p q
hidden s d n p q wait is =
    let denied = option_map refuse.Denied (barred (may_read s d) (take (min n 1) q)) in
    let r =
    denied-first (may_read s d) n q (refuse.Denied p)
    (this denied ((refuse.WouldBlock when wait) ∷ []) (refuse.Denied p) (last wait) is) in
    let p_is : p ≡ r.0 = ap pool_of r.1 in
    record {
      byte = r.2;
      rest = r.3;
      text_is = r.4 ∙ ap (λ k. (r.2, k) ∷ r.3) (sym p_is);
      may_not =
          ap (λ k. may_read s d k) p_is ∙ r.5;
    }
  where
    last : (w : Bool) → first ((refuse.WouldBlock when w) ∷ []) ≡ Some (refuse.Denied p) → ⊥
    last true e = cc
    last false e = cc

    pool_of : Refusal → ℕ
    pool_of (refuse.Denied k) = k
    pool_of y = 0

read-said : (s t : State) (d fd n : ℕ) (o : Option Descriptor) (x : Refusal) → descriptor s d fd ≡ o
    → (reading.read_late s o x → ⊥) → (refuse.NoDomain ≡ x → ⊥) → (refuse.BadFd ≡ x → ⊥) → (refuse.WrongMode ≡ x → ⊥)
    → (refuse.TooMany ≡ x → ⊥)
    → MatchOption (first (reading.iol_read s d fd n).refusals) (reading.read_late s (descriptor s d fd) x) (λ y. x ≡ y)
    → first (reading.read_denied s d o n ∷ (refuse.WouldBlock when reading.must_wait s o n) ∷ []) ≡ Some x
read-said s t d fd n o x is late a b c e step =
    subst (λ z. first (reading.read_denied s d z n ∷ (refuse.WouldBlock when reading.must_wait s z n) ∷ []) ≡ Some x) is
    (queue-said s d n (descriptor s d fd) _ _ _ _ x a b c e
    (now (first (reading.iol_read s d fd n).refusals)
    (subst (λ z. MatchOption (first (reading.iol_read s d fd n).refusals) (reading.read_late s z x) (λ y. x ≡ y)) is
    step)))
  where
    now : (f : Option Refusal) → MatchOption f (reading.read_late s o x) (λ y. x ≡ y) → f ≡ Some x
    now None never = absurd (late never)
    now (Some y) same = ap (λ z. Some z) (sym same)

pub conn_is_empty : (s t : State) (d fd c n : ℕ) → descriptor s d fd ≡ Some (on.Connection c)
    → StepsTo s (event.Call d (call.IolRead fd n)) (reply.Refused refuse.WouldBlock) t → ((conn_at s c).incoming ≡ [])
    × ((conn_at s c).peer ≡ None)
conn_is_empty s t d fd c n is step =
    let both =
    nothing-yet s d n (conn_at s c).incoming (is_none (conn_at s c).peer)
    (read-said s t d fd n (Some (on.Connection c)) refuse.WouldBlock is (λ e. e) (λ e. cc) (λ e. cc) (λ e. cc)
    (λ e. cc) step.0) in
    (both.0, none (conn_at s c).peer both.1)
  where
    none : {A : Type 0} (o : Option A) → is_none o ≡ true → o ≡ None
    none None is = refl
    none (Some x) is = absurd (cc)

pub pipe_is_empty : (s t : State) (d fd p n : ℕ) → descriptor s d fd ≡ Some (on.ReadEnd p)
    → StepsTo s (event.Call d (call.IolRead fd n)) (reply.Refused refuse.WouldBlock) t
    → ((pipe_at s p).queue ≡ []) × ((pipe_at s p).writing ≡ true)
pipe_is_empty s t d fd p n is step =
    nothing-yet s d n (pipe_at s p).queue (pipe_at s p).writing
    (read-said s t d fd n (Some (on.ReadEnd p)) refuse.WouldBlock is (λ e. e) (λ e. cc) (λ e. cc) (λ e. cc) (λ e. cc)
    step.0)

pub conn_is_hidden : (s t : State) (d fd c n q : ℕ) → descriptor s d fd ≡ Some (on.Connection c)
    → StepsTo s (event.Call d (call.IolRead fd n)) (reply.Refused (refuse.Denied q)) t
    → IsHidden s d q (conn_at s c).incoming
conn_is_hidden s t d fd c n q is step =
    hidden s d n q (conn_at s c).incoming _ (read-said s t d fd n (Some (on.Connection c)) (refuse.Denied q) is (λ e. e)
    (λ e. cc) (λ e. cc) (λ e. cc) (λ e. cc) step.0)

pub pipe_is_hidden : (s t : State) (d fd p n q : ℕ) → descriptor s d fd ≡ Some (on.ReadEnd p)
    → StepsTo s (event.Call d (call.IolRead fd n)) (reply.Refused (refuse.Denied q)) t
    → IsHidden s d q (pipe_at s p).queue
pipe_is_hidden s t d fd p n q is step =
    hidden s d n q (pipe_at s p).queue _ (read-said s t d fd n (Some (on.ReadEnd p)) (refuse.Denied q) is (λ e. e)
    (λ e. cc) (λ e. cc) (λ e. cc) (λ e. cc) step.0)

-- Writing.

write-said : (s : State) (d fd a : ℕ) (o : Option Descriptor) (x : Refusal) → descriptor s d fd ≡ o
    → (writing.write_late s o x → ⊥) → (refuse.NoDomain ≡ x → ⊥) → (refuse.BadFd ≡ x → ⊥) → (refuse.BadAgg ≡ x → ⊥)
    → (refuse.WrongMode ≡ x → ⊥) → (refuse.TooLong ≡ x → ⊥)
    → MatchOption (first (writing.iol_write s d fd a).refusals) (writing.write_late s (descriptor s d fd) x)
    (λ y. x ≡ y)
    → first ((refuse.BrokenPipe when writing.is_broken s o)
    ∷ (refuse.WouldBlock when writing.takes_none s o (length (text s d a))) ∷ []) ≡ Some x
write-said s d fd a o x is late no_domain bad_fd bad_agg wrong long step =
    let z : Option Descriptor = descriptor s d fd in
    let rest = (refuse.BrokenPipe when writing.is_broken s z)
    ∷ (refuse.WouldBlock when writing.takes_none s z (length (text s d a))) ∷ [] in
    subst
    (λ z. first ((refuse.BrokenPipe when writing.is_broken s z)
    ∷ (refuse.WouldBlock when writing.takes_none s z (length (text s d a))) ∷ []) ≡ Some x) is
    (other (refuse.TooLong when _) rest x (when-differs refuse.TooLong x _ long)
    (other (refuse.WrongMode when _) ((refuse.TooLong when _) ∷ rest) x (when-differs refuse.WrongMode x _ wrong)
    (other (refuse.BadAgg when _) ((refuse.WrongMode when _) ∷ (refuse.TooLong when _) ∷ rest) x
    (when-differs refuse.BadAgg x _ bad_agg)
    (other (refuse.BadFd when _) ((refuse.BadAgg when _) ∷ (refuse.WrongMode when _) ∷ (refuse.TooLong when _) ∷ rest) x
    (when-differs refuse.BadFd x _ bad_fd)
    (other (refuse.NoDomain when _) ((refuse.BadFd when _) ∷ (refuse.BadAgg when _) ∷ (refuse.WrongMode when _)
    ∷ (refuse.TooLong when _) ∷ rest) x (when-differs refuse.NoDomain x _ no_domain)
    (now (first (writing.iol_write s d fd a).refusals)
    (subst (λ z. MatchOption (first (writing.iol_write s d fd a).refusals) (writing.write_late s z x) (λ y. x ≡ y))
    is step)))))))
  where
    now : (f : Option Refusal) → MatchOption f (writing.write_late s o x) (λ y. x ≡ y) → f ≡ Some x
    now None never = absurd (late never)
    now (Some y) same = ap (λ z. Some z) (sym same)

full : (n waits : ℕ) (broken : Bool)
    → first ((refuse.BrokenPipe when broken)
    ∷ (refuse.WouldBlock when (nat_lt 0 n && (min n (MAX_QUEUE_BYTES - waits) == 0))) ∷ []) ≡ Some refuse.WouldBlock
    → MAX_QUEUE_BYTES ≤ waits
full n waits broken is =
    let none = nat_lt 0 n && (min n (MAX_QUEUE_BYTES - waits) == 0) in
    let last = other (refuse.BrokenPipe when broken) ((refuse.WouldBlock when none) ∷ []) refuse.WouldBlock
    (when-differs refuse.BrokenPipe refuse.WouldBlock broken (λ e. cc)) is in
    let holds =
    when-some refuse.WouldBlock none (this (refuse.WouldBlock when none) [] refuse.WouldBlock (λ e. cc) last) in
    grind (arith, nat_tests, holds)

pub broken-said : (broken none : Bool) → first ((refuse.BrokenPipe when broken) ∷ (refuse.WouldBlock when none) ∷ [])
    ≡ Some refuse.BrokenPipe → broken ≡ true
broken-said broken none is =
    when-some refuse.BrokenPipe broken (this (refuse.BrokenPipe when broken) ((refuse.WouldBlock when none) ∷ [])
    refuse.BrokenPipe (last none) is)
  where
    last : (b : Bool) → first ((refuse.WouldBlock when b) ∷ []) ≡ Some refuse.BrokenPipe → ⊥
    last true e = cc
    last false e = cc

pub conn_is_full : (s t : State) (d fd c a : ℕ) → descriptor s d fd ≡ Some (on.Connection c)
    → StepsTo s (event.Call d (call.IolWrite fd a)) (reply.Refused refuse.WouldBlock) t
    → MAX_QUEUE_BYTES ≤ length (conn_at s c).outgoing
conn_is_full s t d fd c a is step =
    full (length (text s d a)) (length (conn_at s c).outgoing) _
    (write-said s d fd a (Some (on.Connection c)) refuse.WouldBlock is (λ e. e) (λ e. cc) (λ e. cc) (λ e. cc) (λ e. cc)
    (λ e. cc) step.0)

pub pipe_is_full : (s t : State) (d fd p a : ℕ) → descriptor s d fd ≡ Some (on.WriteEnd p)
    → StepsTo s (event.Call d (call.IolWrite fd a)) (reply.Refused refuse.WouldBlock) t
    → MAX_QUEUE_BYTES ≤ length (pipe_at s p).queue
pipe_is_full s t d fd p a is step =
    full (length (text s d a)) (length (pipe_at s p).queue) _
    (write-said s d fd a (Some (on.WriteEnd p)) refuse.WouldBlock is (λ e. e) (λ e. cc) (λ e. cc) (λ e. cc) (λ e. cc)
    (λ e. cc) step.0)

pub peer_is_gone : (s t : State) (d fd c a : ℕ) → descriptor s d fd ≡ Some (on.Connection c)
    → StepsTo s (event.Call d (call.IolWrite fd a)) (reply.Refused refuse.BrokenPipe) t
    → is_gone (conn_at s c).peer ≡ true
peer_is_gone s t d fd c a is step =
    broken-said (is_gone (conn_at s c).peer) _
    (write-said s d fd a (Some (on.Connection c)) refuse.BrokenPipe is (λ e. e) (λ e. cc) (λ e. cc) (λ e. cc) (λ e. cc)
    (λ e. cc) step.0)

pub nobody_reads : (s t : State) (d fd p a : ℕ) → descriptor s d fd ≡ Some (on.WriteEnd p)
    → StepsTo s (event.Call d (call.IolWrite fd a)) (reply.Refused refuse.BrokenPipe) t → (pipe_at s p).reading ≡ false
nobody_reads s t d fd p a is step =
    not-true (pipe_at s p).reading
    (broken-said (not (pipe_at s p).reading) _ (write-said s d fd a (Some (on.WriteEnd p)) refuse.BrokenPipe is (λ e. e)
    (λ e. cc) (λ e. cc) (λ e. cc) (λ e. cc) (λ e. cc) step.0))

-- Accepting.

found-none : (es : List (ℕ × Connection)) (f : Connection → Bool) (c : ℕ) (x : Connection) → find (λ e. f e.1) es ≡ None
    → lookup es c ≡ Some x → f x ≡ false
found-none [] f c x none is = absurd (cc)
found-none (e ∷ es) f c x none is = by (f e.1) refl (found-none es f c x)
  where
    by : (b : Bool) → f e.1 ≡ b → (find (λ e. f e.1) es ≡ None → lookup es c ≡ Some x → f x ≡ false) → f x ≡ false
    by true holds rest = absurd (let z : find (λ e. f e.1) (e ∷ es) ≡ Some e = grind (arith, common_steps, holds) in
        cc (z, none))
    by false fails rest =
        let later : find (λ e. f e.1) es ≡ None = grind (arith, common_steps, fails, none) in
        elim (cases_eq e.0 c) [
          | inl same ↦ (let x_is : e.1 ≡ x = grind (arith, nat_tests, common_steps, same, is) in ap f (sym x_is)
              ∙ fails)
          | inr differ ↦ rest later (grind (arith, nat_tests, common_steps, differ, is))
        ]

pub nobody_waits : (s t : State) (d c : ℕ) → StepsTo s (event.Call d call.Accept) (reply.Refused refuse.WouldBlock) t
    → (conn_at s c).accepted ≡ false → may_read s d (conn_at s c).pool ≡ false
nobody_waits s t d c step waits = by (lookup s.conns c) refl
  where
    test : Connection → Bool
    test k = not k.accepted && may_read s d k.pool

    last : first ((refuse.WouldBlock when is_none (fds.waiting s d)) ∷ []) ≡ Some refuse.WouldBlock
    last =
        other (refuse.TooMany when _) ((refuse.WouldBlock when is_none (fds.waiting s d)) ∷ []) refuse.WouldBlock
        (when-differs refuse.TooMany refuse.WouldBlock _ (λ e. cc))
        (other (refuse.NoDomain when _) ((refuse.TooMany when _) ∷ (refuse.WouldBlock when is_none (fds.waiting s d))
        ∷ []) refuse.WouldBlock (when-differs refuse.NoDomain refuse.WouldBlock _ (λ e. cc))
        (said (first (fds.accept s d).refusals) refuse.WouldBlock step.0))

    none : find (λ e. test e.1) s.conns ≡ None
    none =
        unfound (find (λ e. test e.1) s.conns)
        (when-some refuse.WouldBlock (is_none (fds.waiting s d))
        (this (refuse.WouldBlock when is_none (fds.waiting s d)) [] refuse.WouldBlock (λ e. cc) last))
      where
        unfound : (o : Option (ℕ × Connection)) → is_none (option_map (λ e. e.0) o) ≡ true → o ≡ None
        unfound None is = refl
        unfound (Some e) is = absurd (cc)

    by : (o : Option Connection) → lookup s.conns c ≡ o → may_read s d (conn_at s c).pool ≡ false
    by None is = absurd (let e = ap (λ (k : Connection). k.accepted) (conn-unmade s c is) in cc (e, waits))
    by (Some x) is =
        let fails : test x ≡ false = found-none s.conns test c x none is in
        let x_is = conn-found s c x is in
        let yet : x.accepted ≡ false = sym (ap (λ (k : Connection). k.accepted) x_is) ∙ waits in
        ap (λ (k : Connection). may_read s d k.pool) x_is ∙ barred_by x.accepted (may_read s d x.pool) yet fails
      where
        barred_by : (a b : Bool) → a ≡ false → (not a && b) ≡ false → b ≡ false
        barred_by false b yet fails = fails
        barred_by true b yet fails = absurd (cc)

-- Calls that are never refused.

pub close_is_done : (s t : State) (d fd : ℕ) (x : Descriptor) (r : Reply) → is_live s d ≡ true
    → descriptor s d fd ≡ Some x → StepsTo s (event.Call d (call.Close fd)) r t → r ≡ reply.Done
close_is_done s t d fd x reply.Done live is step = refl
close_is_done s t d fd x (reply.Refused y) live is step =
    absurd (subst (λ o. MatchOption o (Never y) (λ z. y ≡ z)) (past-live s d _ live
    ∙ past (refuse.BadFd when is_none (descriptor s d fd)) [] (ap (λ o. refuse.BadFd when is_none o) is)) step.0)
close_is_done s t d fd x r live is step = (let e = step.1 in absurd (cc))

pub drop_is_done : (s t : State) (d a : ℕ) (bytes : List ℕ) (r : Reply) → is_live s d ≡ true
    → readable_at s d a ≡ Some bytes → StepsTo s (event.Call d (call.AggDrop a)) r t → r ≡ reply.Done
drop_is_done s t d a bytes reply.Done live has step = refl
drop_is_done s t d a bytes (reply.Refused y) live has step =
    absurd (subst (λ o. MatchOption o (Never y) (λ z. y ≡ z)) (past-live s d _ live
    ∙ past (refuse.BadAgg when is_none (aggregate s d a)) []
    (ap (λ b. refuse.BadAgg when b) (agg-there s d a bytes has))) step.0)
drop_is_done s t d a bytes r live has step = (let e = step.1 in absurd (cc))
