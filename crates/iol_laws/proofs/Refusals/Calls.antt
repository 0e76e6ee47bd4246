-- The refusals that a call can still get.
use Rattle.std.proofs.Common.{inl, inr, ◌≡◌, ◌≢◌, ℕ, ◌+◌, ◌≤◌, ◌==◌, List, [], ◌∷◌, length, ap, ◌∙◌, refl, sym, subst}
use Rattle.std.proofs.Common.{arith, Option, Some, None, true, false, Bool}
use Rattle.std.specs.Prelude.{⊤, option_map, unwrap_or, not, is_none, min, take, nat_lt, ◌&&◌, ◌||◌, MatchOption}
use Rattle.std.proofs.lemmas.Bool.{cases_eq}
use Rattle.std.proofs.lemmas.Bool.Decides.{nat_tests}
use Rattle.iol_core.specs.Text.{barred}
use Rattle.iol_core.specs.State.{State, is_live, domain, descriptor, text, may_read, pool, file}
use Rattle.iol_core.specs.Meaning.{first, ◌when◌, WantOfMemory, WantOfRoom}
use Rattle.iol_core.specs.Run.{StepsTo, called}
use Rattle.iol_core.specs.Calls.Aggregates as aggs
use Rattle.iol_core.specs.Calls.Descriptors as fds
use Rattle.iol_core.specs.Calls.Files.{file_called}
use Rattle.iol_core.specs.Calls.Reads as reading
use Rattle.iol_core.specs.Calls.Writes as writing
use Rattle.iol_core.specs.Calls.Writes.{is_file}
use Rattle.iol_core.specs.declared.limits.TheConstants.{MAX_AGGREGATE_BYTES}
use Rattle.iol_core.specs.declared.refusals.Refusal.{Refusal}
use Rattle.iol_core.specs.declared.refusals.Refusal.TheVariants as refuse
use Rattle.iol_core.specs.declared.descriptors.Descriptor.{Descriptor}
use Rattle.iol_core.specs.declared.descriptors.Descriptor.TheVariants as on
use Rattle.iol_core.specs.declared.events.Call.{Call}
use Rattle.iol_core.specs.declared.events.Call.TheVariants as call
use Rattle.iol_core.specs.declared.events.Event.TheVariants as event
use Rattle.iol_core.specs.declared.events.Reply.TheVariants as reply
use Rattle.iol_laws.specs.Caller.{readable_at}
use Rattle.iol_laws.specs.RefusalsLeft.{may_wait, LacksNumbers, LacksNumbersOrRoom, LacksNumbersOrIsDenied}
use Rattle.iol_laws.specs.RefusalsLeft.{LacksNumbersOrWaits, HasNothingToRead, LacksNumbersOrHasNothingToRead}
use Rattle.iol_laws.specs.RefusalsLeft.{CannotPut, CannotPutOrLacksRoom}
use Rattle.iol_laws.proofs.Numbers.{agg-there, text-of}
use Rattle.iol_laws.proofs.Texts.{length-bytes}

-- each refusal in a list satisfies the predicate
abbrev pub Pass : (Refusal → Type 0) → List (Option Refusal) → Type 0
Pass Is [] = ⊤
Pass Is (o ∷ os) = MatchOption o ⊤ Is × Pass Is os

pub left : (Is Late : Refusal → Type 0) (os : List (Option Refusal)) (x : Refusal) → Pass Is os → (Late x → Is x)
    → MatchOption (first os) (Late x) (λ y. x ≡ y) → Is x
left Is Late [] x each late said = late said
left Is Late (None ∷ os) x each late said = left Is Late os x each.1 late said
left Is Late (Some y ∷ os) x each late said = subst Is (sym said) each.0

pub may : (Is : Refusal → Type 0) (y : Refusal) (b : Bool) → Is y → MatchOption (y when b) ⊤ Is
may Is y true is = is
may Is y false is = tt

pub not-so : (Is : Refusal → Type 0) (y : Refusal) (b : Bool) → b ≡ false → MatchOption (y when b) ⊤ Is
not-so Is y true b_is = absurd (cc)
not-so Is y false b_is = tt

denied : (Is : Refusal → Type 0) (o : Option ℕ) → ((p : ℕ) → Is (refuse.Denied p))
    → MatchOption (option_map refuse.Denied o) ⊤ Is
denied Is None is = tt
denied Is (Some p) is = is p

pub denied_by : (Is : Refusal → Type 0) (s : State) (d : ℕ) (o : Option ℕ) → ((p : ℕ) → Is (refuse.Denied p))
    → MatchOption (fds.denied_by s d o) ⊤ Is
denied_by Is s d None is = tt
denied_by Is s d (Some p) is = may Is (refuse.Denied p) (not (may_read s d p)) (is p)

-- late refusals

pub of-memory : (Is : Refusal → Type 0) (x : Refusal) → Is refuse.Memory → WantOfMemory x → Is x
of-memory Is refuse.Memory is want = is
of-memory Is x is want = absurd want

pub of-room : (Is : Refusal → Type 0) (p : ℕ) (x : Refusal) → Is refuse.Memory
    → ((q : ℕ) → q ≡ p → Is (refuse.NoRoom q)) → WantOfRoom p x → Is x
of-room Is p refuse.Memory is room want = is
of-room Is p (refuse.NoRoom q) is room want = room q want
of-room Is p x is room want = absurd want

-- the caller, its aggregates, its descriptors and its default pool

pub alive : (s : State) (d : ℕ) → is_live s d ≡ true → not (is_live s d) ≡ false
alive s d live = ap (λ b. not b) live

pub both-alive : (s : State) (d e : ℕ) → is_live s d ≡ true → is_live s e ≡ true
    → (not (is_live s d) || not (is_live s e)) ≡ false
both-alive s d e one two = ap (λ b. not b || not (is_live s e)) one ∙ ap (λ b. not b) two

pub long : (s : State) (d a : ℕ) (bytes : List ℕ) → readable_at s d a ≡ Some bytes → length (text s d a) ≡ length bytes
long s d a bytes is = sym (length-bytes (text s d a)) ∙ ap (λ (l : List ℕ). length l) (text-of s d a bytes is)

pub open-fd : (s : State) (d fd : ℕ) (y : Descriptor) → descriptor s d fd ≡ Some y → is_none (descriptor s d fd) ≡ false
open-fd s d fd y is = ap (λ (o : Option Descriptor). is_none o) is

default-is : (s : State) (d p : ℕ) → (domain s d).default ≡ Some p → aggs.default_pool s d ≡ p
default-is s d p is = ap (λ (o : Option ℕ). unwrap_or o 0) is

-- calls on domains and aggregates

pub left_domain_new : (s t : State) (d : ℕ) (x : Refusal) → is_live s d ≡ true
    → StepsTo s (event.Call d call.DomainNew) (reply.Refused x) t → LacksNumbers x
left_domain_new s t d x live step =
    let Is = LacksNumbers in
    left Is WantOfMemory (called s d call.DomainNew).refusals x (
      not-so Is refuse.NoDomain _ (alive s d live),
      (may Is refuse.TooMany _ tt, tt),
    ) (of-memory Is x tt) step.0

pub left_make : (s t : State) (d p : ℕ) (bytes : List ℕ) (x : Refusal) → is_live s d ≡ true
    → (domain s d).default ≡ Some p → (pool s p).closed ≡ false → length bytes ≤ MAX_AGGREGATE_BYTES
    → StepsTo s (event.Call d (call.AggMake bytes)) (reply.Refused x) t → LacksNumbersOrRoom p x
left_make s t d p bytes x live default open_yet fits step =
    let Is = LacksNumbersOrRoom p in
    let p_is = default-is s d p default in
    left Is (WantOfRoom (aggs.default_pool s d)) (called s d (call.AggMake bytes)).refusals x (
      not-so Is refuse.NoDomain _ (alive s d live),
      (
        not-so Is refuse.NoPool _ (ap (λ (o : Option ℕ). is_none o) default),
        (
          not-so Is refuse.TooLong _ (not-above (length bytes) fits),
          (
            may Is refuse.TooMany _ tt,
            (not-so Is (refuse.PoolClosed (aggs.default_pool s d)) _ (ap (λ q. (pool s q).closed) p_is ∙ open_yet), tt),
          ),
        ),
      ),
    )
    (of-room Is (aggs.default_pool s d) x tt (λ q q_is. q_is ∙ p_is)) step.0
  where
    not-above : (n : ℕ) → n ≤ MAX_AGGREGATE_BYTES → nat_lt MAX_AGGREGATE_BYTES n ≡ false
    not-above n fits = grind (arith, nat_tests, fits)

pub left_dup : (s t : State) (d a : ℕ) (bytes : List ℕ) (x : Refusal) → is_live s d ≡ true
    → readable_at s d a ≡ Some bytes → StepsTo s (event.Call d (call.AggDup a)) (reply.Refused x) t → LacksNumbers x
left_dup s t d a bytes x live has step =
    let Is = LacksNumbers in
    left Is WantOfMemory (called s d (call.AggDup a)).refusals x (
      not-so Is refuse.NoDomain _ (alive s d live),
      (not-so Is refuse.BadAgg _ (agg-there s d a bytes has), (may Is refuse.TooMany _ tt, tt)),
    ) (of-memory Is x tt)
    step.0

pub left_cut : (s t : State) (d a from to : ℕ) (bytes : List ℕ) (x : Refusal) → is_live s d ≡ true
    → readable_at s d a ≡ Some bytes → from ≤ to → to ≤ length bytes
    → StepsTo s (event.Call d (call.AggCut a from to)) (reply.Refused x) t → LacksNumbers x
left_cut s t d a from to bytes x live has rising fits step =
    let Is = LacksNumbers in
    left Is WantOfMemory (called s d (call.AggCut a from to)).refusals x (
      not-so Is refuse.NoDomain _ (alive s d live),
      (
        not-so Is refuse.BadAgg _ (agg-there s d a bytes has),
        (
          not-so Is refuse.BadRange _ (within (length (text s d a)) (length bytes) (long s d a bytes has) fits),
          (may Is refuse.TooMany _ tt, tt),
        ),
      ),
    ) (of-memory Is x tt) step.0
  where
    within : (n m : ℕ) → n ≡ m → to ≤ m → (nat_lt to from || nat_lt n to) ≡ false
    within n m same fits = grind (arith, nat_tests, rising, same, fits)

pub left_split : (s t : State) (d a at : ℕ) (bytes : List ℕ) (x : Refusal) → is_live s d ≡ true
    → readable_at s d a ≡ Some bytes → at ≤ length bytes
    → StepsTo s (event.Call d (call.AggSplit a at)) (reply.Refused x) t → LacksNumbers x
left_split s t d a at bytes x live has fits step =
    let Is = LacksNumbers in
    left Is WantOfMemory (called s d (call.AggSplit a at)).refusals x (
      not-so Is refuse.NoDomain _ (alive s d live),
      (
        not-so Is refuse.BadAgg _ (agg-there s d a bytes has),
        (
          not-so Is refuse.BadRange _ (within (length (text s d a)) (length bytes) (long s d a bytes has) fits),
          (may Is refuse.TooMany _ tt, tt),
        ),
      ),
    ) (of-memory Is x tt) step.0
  where
    within : (n m : ℕ) → n ≡ m → at ≤ m → nat_lt n at ≡ false
    within n m same fits = grind (arith, nat_tests, same, fits)

pub left_join : (s t : State) (d a b : ℕ) (xs ys : List ℕ) (x : Refusal) → is_live s d ≡ true
    → readable_at s d a ≡ Some xs → readable_at s d b ≡ Some ys → a ≢ b → length xs + length ys ≤ MAX_AGGREGATE_BYTES
    → StepsTo s (event.Call d (call.AggJoin a b)) (reply.Refused x) t → LacksNumbers x
left_join s t d a b xs ys x live has_a has_b differ fits step =
    let Is = LacksNumbers in
    left Is WantOfMemory (called s d (call.AggJoin a b)).refusals x (
      not-so Is refuse.NoDomain _ (alive s d live),
      (
        not-so Is refuse.BadAgg _ (both (aggs.lacks_agg s d a) (aggs.lacks_agg s d b) (agg-there s d a xs has_a)
            (agg-there s d b ys has_b)),
        (
          not-so Is refuse.TooLong _ (within (length (text s d a)) (length (text s d b)) (length xs) (length ys)
              (long s d a xs has_a) (long s d b ys has_b) fits),
          (may Is refuse.TooMany _ tt, tt),
        ),
      ),
    )
    (of-memory Is x tt) step.0
  where
    both : (no nor : Bool) → no ≡ false → nor ≡ false → (no || nor || (a == b)) ≡ false
    both false false one two = elim (cases_eq a b) [ inl k ↦ absurd (differ k) | inr k ↦ grind (arith, nat_tests, k) ]
    both true nor one two = absurd (cc)
    both false true one two = absurd (cc)

    within : (n m k l : ℕ) → n ≡ k → m ≡ l → k + l ≤ MAX_AGGREGATE_BYTES → nat_lt MAX_AGGREGATE_BYTES (n + m) ≡ false
    within n m k l one two fits = grind (arith, nat_tests, one, two, fits)

pub left_show : (s t : State) (d a : ℕ) (bytes : List ℕ) (x : Refusal) → is_live s d ≡ true
    → readable_at s d a ≡ Some bytes → StepsTo s (event.Call d (call.Show a)) (reply.Refused x) t → x ≡ refuse.Memory
left_show s t d a bytes x live has step =
    let Is : Refusal → Type 0 = λ (y : Refusal). y ≡ refuse.Memory in
    left Is WantOfMemory (called s d (call.Show a)).refusals x (
      not-so Is refuse.NoDomain _ (alive s d live),
      (not-so Is refuse.BadAgg _ (agg-there s d a bytes has), tt),
    ) (of-memory Is x refl) step.0

pub left_give_agg : (s t : State) (d a to : ℕ) (bytes : List ℕ) (x : Refusal) → is_live s d ≡ true → is_live s to ≡ true
    → readable_at s d a ≡ Some bytes → StepsTo s (event.Call d (call.AggGive a to)) (reply.Refused x) t
    → LacksNumbersOrIsDenied x
left_give_agg s t d a to bytes x live receives has step =
    let Is = LacksNumbersOrIsDenied in
    left Is WantOfMemory (called s d (call.AggGive a to)).refusals x (
      not-so Is refuse.NoDomain _ (both-alive s d to live receives),
      (
        not-so Is refuse.BadAgg _ (agg-there s d a bytes has),
        (may Is refuse.TooMany _ tt, (denied Is (barred (may_read s to) (text s d a)) (λ p. tt), tt)),
      ),
    )
    (of-memory Is x tt) step.0

-- calls on descriptors

pub left_pipe : (s t : State) (d : ℕ) (x : Refusal) → is_live s d ≡ true
    → StepsTo s (event.Call d call.Pipe) (reply.Refused x) t → LacksNumbers x
left_pipe s t d x live step =
    let Is = LacksNumbers in
    left Is WantOfMemory (called s d call.Pipe).refusals x (
      not-so Is refuse.NoDomain _ (alive s d live),
      (may Is refuse.TooMany _ tt, tt),
    ) (of-memory Is x tt) step.0

pub left_give_fd : (s t : State) (d fd to : ℕ) (y : Descriptor) (x : Refusal) → is_live s d ≡ true → is_live s to ≡ true
    → descriptor s d fd ≡ Some y → StepsTo s (event.Call d (call.GiveFd fd to)) (reply.Refused x) t
    → LacksNumbersOrIsDenied x
left_give_fd s t d fd to y x live receives is step =
    let Is = LacksNumbersOrIsDenied in
    left Is WantOfMemory (called s d (call.GiveFd fd to)).refusals x (
      not-so Is refuse.NoDomain _ (both-alive s d to live receives),
      (
        not-so Is refuse.BadFd _ (open-fd s d fd y is),
        (may Is refuse.TooMany _ tt, (denied_by Is s to (fds.needed_pool s (descriptor s d fd)) (λ p. tt), tt)),
      ),
    )
    (of-memory Is x tt) step.0

pub left_accept : (s t : State) (d : ℕ) (x : Refusal) → is_live s d ≡ true
    → StepsTo s (event.Call d call.Accept) (reply.Refused x) t → LacksNumbersOrWaits x
left_accept s t d x live step =
    let Is = LacksNumbersOrWaits in
    left Is WantOfMemory (called s d call.Accept).refusals x (
      not-so Is refuse.NoDomain _ (alive s d live),
      (may Is refuse.TooMany _ tt, (may Is refuse.WouldBlock _ tt, tt)),
    ) (of-memory Is x tt) step.0

-- a property of the ends of pipes and of connections holds for each descriptor that is not of a file
of_queue : (P : Descriptor → Type 0) → ((q : ℕ) → P (on.ReadEnd q)) → ((q : ℕ) → P (on.WriteEnd q))
    → ((c : ℕ) → P (on.Connection c)) → (y : Descriptor) → is_file (Some y) ≡ false → P y
of_queue P reads writes conns (on.File f at mode) queue = absurd (cc)
of_queue P reads writes conns (on.ReadEnd q) queue = reads q
of_queue P reads writes conns (on.WriteEnd q) queue = writes q
of_queue P reads writes conns (on.Connection c) queue = conns c

-- reading a queue

read-denied : (Is : Refusal → Type 0) (s : State) (d n : ℕ) (o : Option Descriptor) → ((p : ℕ) → Is (refuse.Denied p))
    → MatchOption (reading.read_denied s d o n) ⊤ Is
read-denied Is s d n (Some (on.File f at mode)) is = denied_by Is s d (Some (file s f).pool) is
read-denied Is s d n o is = denied Is (barred (may_read s d) (take (min n 1) (reading.unread s o))) is

read-late : (s : State) (d fd : ℕ) (y : Descriptor) (x : Refusal) → descriptor s d fd ≡ Some y
    → is_file (Some y) ≡ false → reading.read_late s (descriptor s d fd) x → WantOfMemory x
read-late s d fd y x is queue late =
    of_queue (λ z. reading.read_late s (Some z) x → WantOfMemory x) (λ q l. l) (λ q l. l) (λ q l. l) y queue
    (subst (λ (o : Option Descriptor). reading.read_late s o x) is late)

can-read : (s : State) (d fd : ℕ) (y : Descriptor) → descriptor s d fd ≡ Some y → reading.can_read (Some y) ≡ true
    → not (reading.can_read (descriptor s d fd)) ≡ false
can-read s d fd y is can = ap (λ (o : Option Descriptor). not (reading.can_read o)) is ∙ ap (λ b. not b) can

pub left_read : (s t : State) (d fd n : ℕ) (y : Descriptor) (x : Refusal) → is_live s d ≡ true
    → descriptor s d fd ≡ Some y → is_file (Some y) ≡ false → reading.can_read (Some y) ≡ true
    → StepsTo s (event.Call d (call.IolRead fd n)) (reply.Refused x) t → LacksNumbersOrHasNothingToRead x
left_read s t d fd n y x live is queue can step =
    let Is = LacksNumbersOrHasNothingToRead in
    left Is (reading.read_late s (descriptor s d fd)) (called s d (call.IolRead fd n)).refusals x (
      not-so Is refuse.NoDomain _ (alive s d live),
      (
        not-so Is refuse.BadFd _ (open-fd s d fd y is),
        (
          not-so Is refuse.WrongMode _ (can-read s d fd y is can),
          (
            may Is refuse.TooMany _ tt,
            (read-denied Is s d n (descriptor s d fd) (λ p. tt), (may Is refuse.WouldBlock _ tt, tt)),
          ),
        ),
      ),
    )
    (λ late. of-memory Is x tt (read-late s d fd y x is queue late)) step.0

pub left_copy : (s t : State) (d fd n : ℕ) (y : Descriptor) (x : Refusal) → is_live s d ≡ true
    → descriptor s d fd ≡ Some y → is_file (Some y) ≡ false → reading.can_read (Some y) ≡ true
    → StepsTo s (event.Call d (call.Read fd n)) (reply.Refused x) t → HasNothingToRead x
left_copy s t d fd n y x live is queue can step =
    let Is = HasNothingToRead in
    left Is (reading.read_late s (descriptor s d fd)) (called s d (call.Read fd n)).refusals x (
      not-so Is refuse.NoDomain _ (alive s d live),
      (
        not-so Is refuse.BadFd _ (open-fd s d fd y is),
        (
          not-so Is refuse.WrongMode _ (can-read s d fd y is can),
          (read-denied Is s d n (descriptor s d fd) (λ p. tt), (may Is refuse.WouldBlock _ tt, tt)),
        ),
      ),
    )
    (λ late. of-memory Is x tt (read-late s d fd y x is queue late)) step.0

-- writing to a queue

can-write : (s : State) (d fd : ℕ) (y : Descriptor) → descriptor s d fd ≡ Some y → writing.can_write (Some y) ≡ true
    → not (writing.can_write (descriptor s d fd)) ≡ false
can-write s d fd y is can = ap (λ (o : Option Descriptor). not (writing.can_write o)) is ∙ ap (λ b. not b) can

never-long : (s : State) (d fd n : ℕ) (y : Descriptor) → descriptor s d fd ≡ Some y → is_file (Some y) ≡ false
    → writing.is_too_long (descriptor s d fd) n ≡ false
never-long s d fd n y is queue = ap (λ (o : Option Descriptor). writing.is_too_long o n) is
    ∙ of_queue (λ z. writing.is_too_long (Some z) n ≡ false) (λ q. refl) (λ q. refl) (λ q. refl) y queue

write-late : (s : State) (d fd : ℕ) (y : Descriptor) (x : Refusal) → descriptor s d fd ≡ Some y
    → is_file (Some y) ≡ false → writing.write_late s (descriptor s d fd) x → WantOfMemory x
write-late s d fd y x is queue late =
    of_queue (λ z. writing.write_late s (Some z) x → WantOfMemory x) (λ q l. l) (λ q l. l) (λ q l. l) y queue
    (subst (λ (o : Option Descriptor). writing.write_late s o x) is late)

pool-for : (s : State) (d fd : ℕ) (y : Descriptor) → descriptor s d fd ≡ Some y → is_file (Some y) ≡ false
    → writing.pool_for s d (descriptor s d fd) ≡ aggs.default_pool s d
pool-for s d fd y is queue = ap (λ (o : Option Descriptor). writing.pool_for s d o) is
    ∙ of_queue (λ z. writing.pool_for s d (Some z) ≡ aggs.default_pool s d) (λ q. refl) (λ q. refl) (λ q. refl) y queue

pub and-false : (a b : Bool) → b ≡ false → (a && b) ≡ false
and-false true b is = is
and-false false b is = refl

pub left_write : (s t : State) (d fd a : ℕ) (y : Descriptor) (bytes : List ℕ) (x : Refusal) → is_live s d ≡ true
    → descriptor s d fd ≡ Some y → is_file (Some y) ≡ false → writing.can_write (Some y) ≡ true
    → readable_at s d a ≡ Some bytes → StepsTo s (event.Call d (call.IolWrite fd a)) (reply.Refused x) t → CannotPut x
left_write s t d fd a y bytes x live is queue can has step =
    let Is = CannotPut in
    left Is (writing.write_late s (descriptor s d fd)) (called s d (call.IolWrite fd a)).refusals x (
      not-so Is refuse.NoDomain _ (alive s d live),
      (
        not-so Is refuse.BadFd _ (open-fd s d fd y is),
        (
          not-so Is refuse.BadAgg _ (agg-there s d a bytes has),
          (
            not-so Is refuse.WrongMode _ (can-write s d fd y is can),
            (
              not-so Is refuse.TooLong _ (never-long s d fd (length (text s d a)) y is queue),
              (may Is refuse.BrokenPipe _ tt, (may Is refuse.WouldBlock _ tt, tt)),
            ),
          ),
        ),
      ),
    )
    (λ late. of-memory Is x tt (write-late s d fd y x is queue late)) step.0

pub left_copy_to : (s t : State) (d fd p : ℕ) (y : Descriptor) (bytes : List ℕ) (x : Refusal) → is_live s d ≡ true
    → descriptor s d fd ≡ Some y → is_file (Some y) ≡ false → writing.can_write (Some y) ≡ true
    → (domain s d).default ≡ Some p → (pool s p).closed ≡ false
    → StepsTo s (event.Call d (call.Write fd bytes)) (reply.Refused x) t → CannotPutOrLacksRoom p x
left_copy_to s t d fd p y bytes x live is queue can default open_yet step =
    let Is = CannotPutOrLacksRoom p in
    let o : Option Descriptor = descriptor s d fd in
    let p_is = default-is s d p default in
    left Is (WantOfRoom (writing.pool_for s d o)) (called s d (call.Write fd bytes)).refusals x (
      not-so Is refuse.NoDomain _ (alive s d live),
      (
        not-so Is refuse.BadFd _ (open-fd s d fd y is),
        (
          not-so Is refuse.NoPool _
              (and-false (not (is_file o)) (is_none (domain s d).default) (ap (λ (z : Option ℕ). is_none z) default)),
          (
            not-so Is refuse.WrongMode _ (can-write s d fd y is can),
            (
              not-so Is refuse.TooLong _ (never-long s d fd (length bytes) y is queue),
              (
                not-so Is (refuse.PoolClosed (aggs.default_pool s d)) _
                    (and-false (not (is_file o)) (pool s (aggs.default_pool s d)).closed
                    (ap (λ q. (pool s q).closed) p_is
                    ∙ open_yet)),
                (may Is refuse.BrokenPipe _ tt, (may Is refuse.WouldBlock _ tt, tt)),
              ),
            ),
          ),
        ),
      ),
    )
    (of-room Is (writing.pool_for s d o) x tt (λ q q_is. q_is ∙ (pool-for s d fd y is queue ∙ p_is))) step.0

-- the calls that may get WouldBlock

abbrev pub blocks : Refusal → Bool
blocks refuse.WouldBlock = true
blocks x = false

abbrev pub IsNoWait : Refusal → Type 0
IsNoWait x = blocks x ≡ false

-- WouldBlock does not result from a list of other refusals and from other late ones
pub others : (os : List (Option Refusal)) (Late : Refusal → Type 0) → Pass IsNoWait os
    → (Late refuse.WouldBlock → IsNoWait refuse.WouldBlock)
    → MatchOption (first os) (Late refuse.WouldBlock) (λ y. refuse.WouldBlock ≡ y) → ⊥
others os Late each late said =
    (let e : IsNoWait refuse.WouldBlock = left IsNoWait Late os refuse.WouldBlock each late said in absurd (cc))

pub who_waits : (s t : State) (d : ℕ) (k : Call) → StepsTo s (event.Call d k) (reply.Refused refuse.WouldBlock) t
    → may_wait k ≡ true
who_waits s t d call.DomainNew step =
    absurd (others (called s d call.DomainNew).refusals (called s d call.DomainNew).Late
    (may IsNoWait refuse.NoDomain _ refl, (may IsNoWait refuse.TooMany _ refl, tt)) (λ late. absurd late) step.0)
who_waits s t d call.Exit step =
    absurd (others (called s d call.Exit).refusals (called s d call.Exit).Late (may IsNoWait refuse.NoDomain _ refl, tt)
    (λ late. absurd late) step.0)
who_waits s t d (call.PoolCreate chunks list) step =
    absurd (others (called s d (call.PoolCreate chunks list)).refusals (called s d (call.PoolCreate chunks list)).Late (
      may IsNoWait refuse.NoDomain _ refl,
      (may IsNoWait refuse.BadRange _ refl, (may IsNoWait refuse.TooMany _ refl, tt)),
    ) (λ late. absurd late) step.0)
who_waits s t d (call.PoolClose p) step =
    absurd (others (called s d (call.PoolClose p)).refusals (called s d (call.PoolClose p)).Late (
      may IsNoWait refuse.NoDomain _ refl,
      (
        may IsNoWait refuse.NoPool _ refl,
        (
          may IsNoWait (refuse.Denied p) _ refl,
          (may IsNoWait (refuse.PoolClosed p) _ refl, (may IsNoWait (refuse.PoolBusy p) _ refl, tt)),
        ),
      ),
    ) (λ late. absurd late)
    step.0)
who_waits s t d (call.PoolAdmit p e) step =
    absurd (others (called s d (call.PoolAdmit p e)).refusals (called s d (call.PoolAdmit p e)).Late (
      may IsNoWait refuse.NoDomain _ refl,
      (
        may IsNoWait refuse.NoPool _ refl,
        (
          may IsNoWait refuse.TooMany _ refl,
          (may IsNoWait (refuse.Denied p) _ refl, (may IsNoWait (refuse.PoolClosed p) _ refl, tt)),
        ),
      ),
    ) (λ late. absurd late)
    step.0)
who_waits s t d (call.SetPool p) step =
    absurd (others (called s d (call.SetPool p)).refusals (called s d (call.SetPool p)).Late (
      may IsNoWait refuse.NoDomain _ refl,
      (
        may IsNoWait refuse.NoPool _ refl,
        (may IsNoWait (refuse.Denied p) _ refl, (may IsNoWait (refuse.PoolClosed p) _ refl, tt)),
      ),
    ) (λ late. absurd late)
    step.0)
who_waits s t d (call.AggMake bytes) step =
    absurd (others (called s d (call.AggMake bytes)).refusals (called s d (call.AggMake bytes)).Late (
      may IsNoWait refuse.NoDomain _ refl,
      (
        may IsNoWait refuse.NoPool _ refl,
        (
          may IsNoWait refuse.TooLong _ refl,
          (may IsNoWait refuse.TooMany _ refl, (may IsNoWait (refuse.PoolClosed (aggs.default_pool s d)) _ refl, tt)),
        ),
      ),
    )
    (λ late. absurd late) step.0)
who_waits s t d (call.AggDup a) step =
    absurd (others (called s d (call.AggDup a)).refusals (called s d (call.AggDup a)).Late
    (may IsNoWait refuse.NoDomain _ refl, (may IsNoWait refuse.BadAgg _ refl, (may IsNoWait refuse.TooMany _ refl, tt)))
    (λ late. absurd late) step.0)
who_waits s t d (call.AggCut a from to) step =
    absurd (others (called s d (call.AggCut a from to)).refusals (called s d (call.AggCut a from to)).Late (
      may IsNoWait refuse.NoDomain _ refl,
      (
        may IsNoWait refuse.BadAgg _ refl,
        (may IsNoWait refuse.BadRange _ refl, (may IsNoWait refuse.TooMany _ refl, tt)),
      ),
    ) (λ late. absurd late) step.0)
who_waits s t d (call.AggSplit a at) step =
    absurd (others (called s d (call.AggSplit a at)).refusals (called s d (call.AggSplit a at)).Late (
      may IsNoWait refuse.NoDomain _ refl,
      (
        may IsNoWait refuse.BadAgg _ refl,
        (may IsNoWait refuse.BadRange _ refl, (may IsNoWait refuse.TooMany _ refl, tt)),
      ),
    ) (λ late. absurd late) step.0)
who_waits s t d (call.AggJoin a b) step =
    absurd (others (called s d (call.AggJoin a b)).refusals (called s d (call.AggJoin a b)).Late (
      may IsNoWait refuse.NoDomain _ refl,
      (
        may IsNoWait refuse.BadAgg _ refl,
        (may IsNoWait refuse.TooLong _ refl, (may IsNoWait refuse.TooMany _ refl, tt)),
      ),
    )
    (λ late. absurd late) step.0)
who_waits s t d (call.AggReplace a from to b) step =
    absurd (others (called s d (call.AggReplace a from to b)).refusals (called s d (call.AggReplace a from to b)).Late (
      may IsNoWait refuse.NoDomain _ refl,
      (
        may IsNoWait refuse.BadAgg _ refl,
        (
          may IsNoWait refuse.BadRange _ refl,
          (may IsNoWait refuse.TooLong _ refl, (may IsNoWait refuse.TooMany _ refl, tt)),
        ),
      ),
    ) (λ late. absurd late) step.0)
who_waits s t d (call.AggDrop a) step =
    absurd (others (called s d (call.AggDrop a)).refusals (called s d (call.AggDrop a)).Late
    (may IsNoWait refuse.NoDomain _ refl, (may IsNoWait refuse.BadAgg _ refl, tt)) (λ late. absurd late) step.0)
who_waits s t d (call.AggGive a to) step =
    absurd (others (called s d (call.AggGive a to)).refusals (called s d (call.AggGive a to)).Late (
      may IsNoWait refuse.NoDomain _ refl,
      (
        may IsNoWait refuse.BadAgg _ refl,
        (may IsNoWait refuse.TooMany _ refl, (denied IsNoWait (barred (may_read s to) (text s d a)) (λ p. refl), tt)),
      ),
    )
    (λ late. absurd late) step.0)
who_waits s t d (call.Show a) step =
    absurd (others (called s d (call.Show a)).refusals (called s d (call.Show a)).Late
    (may IsNoWait refuse.NoDomain _ refl, (may IsNoWait refuse.BadAgg _ refl, tt)) (λ late. absurd late) step.0)
who_waits s t d (call.FileNew name p) step =
    absurd (others (called s d (call.FileNew name p)).refusals (called s d (call.FileNew name p)).Late (
      may IsNoWait refuse.NoDomain _ refl,
      (
        may IsNoWait refuse.NoPool _ refl,
        (
          may IsNoWait refuse.WrongMode _ refl,
          (
            may IsNoWait refuse.BadRange _ refl,
            (
              may IsNoWait refuse.TooLong _ refl,
              (
                may IsNoWait refuse.TooMany _ refl,
                (may IsNoWait (refuse.Denied p) _ refl, (may IsNoWait (refuse.PoolClosed p) _ refl, tt)),
              ),
            ),
          ),
        ),
      ),
    ) (λ late. absurd late)
    step.0)
who_waits s t d (call.OpenFile name mode) step =
    absurd (others (called s d (call.OpenFile name mode)).refusals (called s d (call.OpenFile name mode)).Late (
      may IsNoWait refuse.NoDomain _ refl,
      (
        may IsNoWait refuse.NoFile _ refl,
        (
          may IsNoWait refuse.TooMany _ refl,
          (may IsNoWait (refuse.Denied (file s (unwrap_or (file_called s name) 0)).pool) _ refl, tt),
        ),
      ),
    ) (λ late. absurd late)
    step.0)
who_waits s t d call.Pipe step =
    absurd (others (called s d call.Pipe).refusals (called s d call.Pipe).Late (
      may IsNoWait refuse.NoDomain _ refl,
      (may IsNoWait refuse.TooMany _ refl, tt),
    ) (λ late. absurd late) step.0)
who_waits s t d (call.GiveFd fd to) step =
    absurd (others (called s d (call.GiveFd fd to)).refusals (called s d (call.GiveFd fd to)).Late (
      may IsNoWait refuse.NoDomain _ refl,
      (
        may IsNoWait refuse.BadFd _ refl,
        (
          may IsNoWait refuse.TooMany _ refl,
          (
            denied_by IsNoWait s to (fds.needed_pool s (descriptor s d fd)) (λ p. refl),
            tt,
          ),
        ),
      ),
    ) (λ late. absurd late) step.0)
who_waits s t d (call.Close fd) step =
    absurd (others (called s d (call.Close fd)).refusals (called s d (call.Close fd)).Late
    (may IsNoWait refuse.NoDomain _ refl, (may IsNoWait refuse.BadFd _ refl, tt)) (λ late. absurd late) step.0)
who_waits s t d (call.Seek fd at) step =
    absurd (others (called s d (call.Seek fd at)).refusals (called s d (call.Seek fd at)).Late (
      may IsNoWait refuse.NoDomain _ refl,
      (
        may IsNoWait refuse.BadFd _ refl,
        (may IsNoWait refuse.WrongMode _ refl, (may IsNoWait refuse.BadRange _ refl, tt)),
      ),
    ) (λ late. absurd late) step.0)
who_waits s t d (call.Length fd) step =
    absurd (others (called s d (call.Length fd)).refusals (called s d (call.Length fd)).Late (
      may IsNoWait refuse.NoDomain _ refl,
      (may IsNoWait refuse.BadFd _ refl, (may IsNoWait refuse.WrongMode _ refl, tt)),
    ) (λ late. absurd late) step.0)
who_waits s t d (call.Fsync fd) step =
    absurd (others (called s d (call.Fsync fd)).refusals (called s d (call.Fsync fd)).Late (
      may IsNoWait refuse.NoDomain _ refl,
      (may IsNoWait refuse.BadFd _ refl, (may IsNoWait refuse.WrongMode _ refl, tt)),
    ) (λ late. absurd late) step.0)
who_waits s t d k step = refl
