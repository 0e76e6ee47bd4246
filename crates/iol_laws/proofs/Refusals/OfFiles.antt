-- The refusals that a call on a file can still get.
use Rattle.std.proofs.Common.{◌≡◌, ◌<◌, ◌≤◌, ℕ, ◌+◌, ◌==◌, List, length, ap, ◌∙◌, refl, sym, subst, arith, Option, Some}
use Rattle.std.proofs.Common.{None, true, false, Bool}
use Rattle.std.specs.Prelude.{⊤, option_map, unwrap_or, not, is_none, is_some, nat_lt, ◌&&◌, ◌||◌, MatchOption}
use Rattle.std.proofs.lemmas.Bool.Decides.{nat_tests}
use Rattle.std.proofs.lemmas.Grind.{common_steps}
use Rattle.iol_core.specs.NumberedLists.{numbered_or}
use Rattle.iol_core.specs.State.{State, Pool, is_live, is_pool, no_pool, content, descriptor, text, may_read, pool}
use Rattle.iol_core.specs.State.{file}
use Rattle.iol_core.specs.Meaning.{Never, WantOfMemory, WantOfRoom, WantOfRoomOrFault, FaultOf}
use Rattle.iol_core.specs.Run.{StepsTo, called}
use Rattle.iol_core.specs.Calls.Aggregates as aggs
use Rattle.iol_core.specs.Calls.Files as files
use Rattle.iol_core.specs.Calls.Files.{file_called}
use Rattle.iol_core.specs.Calls.Reads as reading
use Rattle.iol_core.specs.Calls.Writes as writing
use Rattle.iol_core.specs.declared.limits.TheConstants.{MAX_FILE_BYTES, MAX_NAME_BYTES}
use Rattle.iol_core.specs.declared.refusals.Refusal.{Refusal}
use Rattle.iol_core.specs.declared.refusals.Refusal.TheVariants as refuse
use Rattle.iol_core.specs.declared.descriptors.Descriptor.{Descriptor}
use Rattle.iol_core.specs.declared.descriptors.Descriptor.TheVariants as on
use Rattle.iol_core.specs.declared.descriptors.Mode.{Mode}
use Rattle.iol_core.specs.declared.events.Call.TheVariants as call
use Rattle.iol_core.specs.declared.events.Event.TheVariants as event
use Rattle.iol_core.specs.declared.events.Reply.TheVariants as reply
use Rattle.iol_laws.specs.Caller.{readable_at}
use Rattle.iol_laws.specs.RefusalsLeft.{LacksNumbers, CannotLoad, CannotFetch, LacksRoom}
use Rattle.iol_laws.proofs.Numbers.{agg-there}
use Rattle.iol_laws.proofs.Refusals.Calls.{left, may, not-so, of-memory, of-room, alive, long, open-fd}

-- late refusals

of-fault : (Is : Refusal → Type 0) (f : ℕ) (x : Refusal) → Is (refuse.Fault f) → FaultOf f x → Is x
of-fault Is f (refuse.Fault g) is late = subst (λ n. Is (refuse.Fault n)) (sym late) is
of-fault Is f x is late = absurd late

of-load : (Is : Refusal → Type 0) (p f : ℕ) (x : Refusal) → Is refuse.Memory → Is (refuse.NoRoom p)
    → Is (refuse.Fault f) → WantOfRoomOrFault p f x → Is x
of-load Is p f refuse.Memory memory room fault late = memory
of-load Is p f (refuse.NoRoom q) memory room fault late = subst (λ n. Is (refuse.NoRoom n)) (sym late) room
of-load Is p f (refuse.Fault g) memory room fault late = subst (λ n. Is (refuse.Fault n)) (sym late) fault
of-load Is p f x memory room fault late = absurd late

-- descriptors of files

-- a test that a file's descriptor fails
unmarked : (test : Option Descriptor → Bool) (s : State) (d fd f at : ℕ) (mode : Mode)
    → descriptor s d fd ≡ Some (on.File f at mode) → test (Some (on.File f at mode)) ≡ false
    → test (descriptor s d fd) ≡ false
unmarked test s d fd f at mode is not_so = ap test is ∙ not_so

never-waits : (a b : Bool) → (a && b && false) ≡ false
never-waits true true = refl
never-waits true false = refl
never-waits false b = refl

never-full : (n : ℕ) → (nat_lt 0 n && (n == 0)) ≡ false
never-full n = grind (arith, nat_tests)

admitted : (Is : Refusal → Type 0) (s : State) (d fd f at n : ℕ) (mode : Mode)
    → descriptor s d fd ≡ Some (on.File f at mode) → may_read s d (file s f).pool ≡ true
    → MatchOption (reading.read_denied s d (descriptor s d fd) n) ⊤ Is
admitted Is s d fd f at n mode is may =
    subst (λ (o : Option Descriptor). MatchOption (reading.read_denied s d o n) ⊤ Is) (sym is)
    (not-so Is (refuse.Denied (file s f).pool) (not (may_read s d (file s f).pool)) (ap (λ b. not b) may))

-- reading a file

pub left_read_file : (s t : State) (d fd f at n : ℕ) (mode : Mode) (x : Refusal) → is_live s d ≡ true
    → descriptor s d fd ≡ Some (on.File f at mode) → reading.reads mode ≡ true → may_read s d (file s f).pool ≡ true
    → StepsTo s (event.Call d (call.IolRead fd n)) (reply.Refused x) t → CannotFetch (file s f).pool f x
left_read_file s t d fd f at n mode x live is reads may_see step =
    let Is : Refusal → Type 0 = CannotFetch (file s f).pool f in
    left Is (reading.read_late s (descriptor s d fd)) (called s d (call.IolRead fd n)).refusals x (
      not-so Is refuse.NoDomain _ (alive s d live),
      (
        not-so Is refuse.BadFd _ (open-fd s d fd (on.File f at mode) is),
        (
          not-so Is refuse.WrongMode _
              (unmarked (λ o. not (reading.can_read o)) s d fd f at mode is (ap (λ b. not b) reads)),
          (
            may Is refuse.TooMany _ tt,
            (
              admitted Is s d fd f at n mode is may_see,
              (
                not-so Is refuse.WouldBlock _
                    (unmarked (λ o. reading.must_wait s o n) s d fd f at mode is (never-waits (nat_lt 0 n) true)),
                tt,
              ),
            ),
          ),
        ),
      ),
    )
    (λ late. of-load Is (file s f).pool f x tt refl refl
    (subst (λ (o : Option Descriptor). reading.read_late s o x) is late)) step.0

pub left_copy_file : (s t : State) (d fd f at n : ℕ) (mode : Mode) (x : Refusal) → is_live s d ≡ true
    → descriptor s d fd ≡ Some (on.File f at mode) → reading.reads mode ≡ true → may_read s d (file s f).pool ≡ true
    → StepsTo s (event.Call d (call.Read fd n)) (reply.Refused x) t → CannotLoad (file s f).pool f x
left_copy_file s t d fd f at n mode x live is reads may_see step =
    let Is : Refusal → Type 0 = CannotLoad (file s f).pool f in
    left Is (reading.read_late s (descriptor s d fd)) (called s d (call.Read fd n)).refusals x (
      not-so Is refuse.NoDomain _ (alive s d live),
      (
        not-so Is refuse.BadFd _ (open-fd s d fd (on.File f at mode) is),
        (
          not-so Is refuse.WrongMode _
              (unmarked (λ o. not (reading.can_read o)) s d fd f at mode is (ap (λ b. not b) reads)),
          (
            admitted Is s d fd f at n mode is may_see,
            (
              not-so Is refuse.WouldBlock _
                  (unmarked (λ o. reading.must_wait s o n) s d fd f at mode is (never-waits (nat_lt 0 n) true)),
              tt,
            ),
          ),
        ),
      ),
    )
    (λ late. of-load Is (file s f).pool f x tt refl refl
    (subst (λ (o : Option Descriptor). reading.read_late s o x) is late)) step.0

-- writing to a file

within : (at n m : ℕ) → n ≡ m → at + m ≤ MAX_FILE_BYTES → nat_lt MAX_FILE_BYTES (at + n) ≡ false
within at n m same fits = grind (arith, nat_tests, same, fits)

pub left_write_file : (s t : State) (d fd f at a : ℕ) (mode : Mode) (bytes : List ℕ) (x : Refusal) → is_live s d ≡ true
    → descriptor s d fd ≡ Some (on.File f at mode) → writing.writes mode ≡ true → readable_at s d a ≡ Some bytes
    → at + length bytes ≤ MAX_FILE_BYTES → StepsTo s (event.Call d (call.IolWrite fd a)) (reply.Refused x) t
    → LacksRoom (file s f).pool x
left_write_file s t d fd f at a mode bytes x live is writes has fits step =
    let Is : Refusal → Type 0 = LacksRoom (file s f).pool in
    let n : ℕ = length (text s d a) in
    left Is (writing.write_late s (descriptor s d fd)) (called s d (call.IolWrite fd a)).refusals x (
      not-so Is refuse.NoDomain _ (alive s d live),
      (
        not-so Is refuse.BadFd _ (open-fd s d fd (on.File f at mode) is),
        (
          not-so Is refuse.BadAgg _ (agg-there s d a bytes has),
          (
            not-so Is refuse.WrongMode _
                (unmarked (λ o. not (writing.can_write o)) s d fd f at mode is (ap (λ b. not b) writes)),
            (
              not-so Is refuse.TooLong _
                  (unmarked (λ o. writing.is_too_long o n) s d fd f at mode is
                  (within at n (length bytes) (long s d a bytes has) fits)),
              (
                not-so Is refuse.BrokenPipe _ (unmarked (λ o. writing.is_broken s o) s d fd f at mode is refl),
                (
                  not-so Is refuse.WouldBlock _
                      (unmarked (λ o. writing.takes_none s o n) s d fd f at mode is (never-full n)),
                  tt,
                ),
              ),
            ),
          ),
        ),
      ),
    )
    (λ late. of-room Is (file s f).pool x tt (λ q q_is. q_is)
    (subst (λ (o : Option Descriptor). writing.write_late s o x) is late)) step.0

pub left_copy_to_file : (s t : State) (d fd f at : ℕ) (mode : Mode) (bytes : List ℕ) (x : Refusal) → is_live s d ≡ true
    → descriptor s d fd ≡ Some (on.File f at mode) → writing.writes mode ≡ true → at + length bytes ≤ MAX_FILE_BYTES
    → StepsTo s (event.Call d (call.Write fd bytes)) (reply.Refused x) t → LacksRoom (file s f).pool x
left_copy_to_file s t d fd f at mode bytes x live is writes fits step =
    let Is : Refusal → Type 0 = LacksRoom (file s f).pool in
    let n : ℕ = length bytes in
    let own : ℕ = aggs.default_pool s d in
    left Is (WantOfRoom (writing.pool_for s d (descriptor s d fd))) (called s d (call.Write fd bytes)).refusals x (
      not-so Is refuse.NoDomain _ (alive s d live),
      (
        not-so Is refuse.BadFd _ (open-fd s d fd (on.File f at mode) is),
        (
          not-so Is refuse.NoPool _ (on-file _),
          (
            not-so Is refuse.WrongMode _
                (unmarked (λ o. not (writing.can_write o)) s d fd f at mode is (ap (λ b. not b) writes)),
            (
              not-so Is refuse.TooLong _
                  (unmarked (λ o. writing.is_too_long o n) s d fd f at mode is (within at n n refl fits)),
              (
                not-so Is (refuse.PoolClosed own) _ (on-file _),
                (
                  not-so Is refuse.BrokenPipe _ (unmarked (λ o. writing.is_broken s o) s d fd f at mode is refl),
                  (
                    not-so Is refuse.WouldBlock _
                        (unmarked (λ o. writing.takes_none s o n) s d fd f at mode is (never-full n)),
                    tt,
                  ),
                ),
              ),
            ),
          ),
        ),
      ),
    )
    (λ late. of-room Is (file s f).pool x tt (λ q q_is. q_is)
    (subst (λ (o : Option Descriptor). WantOfRoom (writing.pool_for s d o) x) is late)) step.0
  where
    -- a test that is only for queues
    on-file : (b : Bool) → (not (writing.is_file (descriptor s d fd)) && b) ≡ false
    on-file b = ap (λ (o : Option Descriptor). not (writing.is_file o) && b) is

-- names, positions and lengths

there : (s : State) (p : ℕ) → (pool s p).closed ≡ false → is_pool s p ≡ true
unfolding pool
there s p open_yet = by (is_pool s p) refl
  where
    by : (b : Bool) → is_pool s p ≡ b → b ≡ true
    by true is = refl
    by false is =
        absurd (let e : numbered_or s.pools p no_pool ≡ no_pool = grind (arith, nat_tests, common_steps, is) in let c =
        ap (λ (x : Pool). x.closed) e in cc (c, open_yet))

pub pool-there : (s : State) (p : ℕ) → (pool s p).closed ≡ false → not (is_pool s p) ≡ false
pool-there s p open_yet = ap (λ b. not b) (there s p open_yet)

pub left_file_new : (s t : State) (d p : ℕ) (name : List ℕ) (x : Refusal) → is_live s d ≡ true
    → file_called s name ≡ None → 0 < length name → length name ≤ MAX_NAME_BYTES
    → length (content s (length s.files + 1)) ≤ MAX_FILE_BYTES → may_read s d p ≡ true → (pool s p).closed ≡ false
    → StepsTo s (event.Call d (call.FileNew name p)) (reply.Refused x) t → LacksNumbers x
left_file_new s t d p name x live unknown some short fits may_see open_yet step =
    let Is = LacksNumbers in
    left Is WantOfMemory (called s d (call.FileNew name p)).refusals x (
      not-so Is refuse.NoDomain _ (alive s d live),
      (
        not-so Is refuse.NoPool _ (pool-there s p open_yet),
        (
          not-so Is refuse.WrongMode _ (ap (λ (o : Option ℕ). is_some o) unknown),
          (
            not-so Is refuse.BadRange _ (named (length name) some short),
            (
              not-so Is refuse.TooLong _ (bounded (length (content s (length s.files + 1))) fits),
              (
                may Is refuse.TooMany _ tt,
                (
                  not-so Is (refuse.Denied p) _ (ap (λ b. not b) may_see),
                  (not-so Is (refuse.PoolClosed p) _ open_yet, tt),
                ),
              ),
            ),
          ),
        ),
      ),
    )
    (of-memory Is x tt) step.0
  where
    named : (n : ℕ) → 0 < n → n ≤ MAX_NAME_BYTES → ((n == 0) || nat_lt MAX_NAME_BYTES n) ≡ false
    named n some short = grind (arith, nat_tests, some, short)

    bounded : (n : ℕ) → n ≤ MAX_FILE_BYTES → nat_lt MAX_FILE_BYTES n ≡ false
    bounded n fits = grind (arith, nat_tests, fits)

pub left_open_file : (s t : State) (d f : ℕ) (name : List ℕ) (mode : Mode) (x : Refusal) → is_live s d ≡ true
    → file_called s name ≡ Some f → may_read s d (file s f).pool ≡ true
    → StepsTo s (event.Call d (call.OpenFile name mode)) (reply.Refused x) t → LacksNumbers x
left_open_file s t d f name mode x live found may_see step =
    let Is = LacksNumbers in
    let p : ℕ = (file s (unwrap_or (file_called s name) 0)).pool in
    left Is WantOfMemory (called s d (call.OpenFile name mode)).refusals x (
      not-so Is refuse.NoDomain _ (alive s d live),
      (
        not-so Is refuse.NoFile _ (ap (λ (o : Option ℕ). is_none o) found),
        (
          may Is refuse.TooMany _ tt,
          (
            not-so Is (refuse.Denied p) _ (ap (λ (o : Option ℕ). not (may_read s d (file s (unwrap_or o 0)).pool)) found
                ∙ ap (λ b. not b) may_see),
            tt,
          ),
        ),
      ),
    )
    (of-memory Is x tt) step.0

file-on : (s : State) (d fd f at : ℕ) (mode : Mode) → descriptor s d fd ≡ Some (on.File f at mode)
    → is_none (files.open_on (descriptor s d fd)) ≡ false
file-on s d fd f at mode is = ap (λ (o : Option Descriptor). is_none (files.open_on o)) is

pub left_sync : (s t : State) (d fd f at : ℕ) (mode : Mode) (x : Refusal) → is_live s d ≡ true
    → descriptor s d fd ≡ Some (on.File f at mode) → StepsTo s (event.Call d (call.Fsync fd)) (reply.Refused x) t
    → x ≡ refuse.Fault f
left_sync s t d fd f at mode x live is step =
    let Is : Refusal → Type 0 = λ (y : Refusal). y ≡ refuse.Fault f in
    left Is (FaultOf (files.file_on s d fd)) (called s d (call.Fsync fd)).refusals x (
      not-so Is refuse.NoDomain _ (alive s d live),
      (
        not-so Is refuse.BadFd _ (open-fd s d fd (on.File f at mode) is),
        (not-so Is refuse.WrongMode _ (file-on s d fd f at mode is), tt),
      ),
    )
    (λ late. of-fault Is f x refl
    (subst (λ n. FaultOf n x) (ap (λ (o : Option Descriptor). unwrap_or (option_map (λ y. y.0) (files.open_on o)) 0)
    is) late)) step.0

pub left_seek : (s t : State) (d fd f was at : ℕ) (mode : Mode) (x : Refusal) → is_live s d ≡ true
    → descriptor s d fd ≡ Some (on.File f was mode) → at ≤ length (content s f)
    → StepsTo s (event.Call d (call.Seek fd at)) (reply.Refused x) t → ⊥
left_seek s t d fd f was at mode x live is fits step =
    left Never Never (called s d (call.Seek fd at)).refusals x (
      not-so Never refuse.NoDomain _ (alive s d live),
      (
        not-so Never refuse.BadFd _ (open-fd s d fd (on.File f was mode) is),
        (
          not-so Never refuse.WrongMode _ (file-on s d fd f was mode is),
          (
            not-so Never refuse.BadRange _
                (ap
                (λ (o : Option Descriptor).
                nat_lt (length (content s (unwrap_or (option_map (λ y. y.0) (files.open_on o)) 0)))
                at) is ∙ in-file (length (content s f)) fits),
            tt,
          ),
        ),
      ),
    )
    (λ late. late) step.0
  where
    in-file : (n : ℕ) → at ≤ n → nat_lt n at ≡ false
    in-file n fits = grind (arith, nat_tests, fits)

pub left_length : (s t : State) (d fd f at : ℕ) (mode : Mode) (x : Refusal) → is_live s d ≡ true
    → descriptor s d fd ≡ Some (on.File f at mode) → StepsTo s (event.Call d (call.Length fd)) (reply.Refused x) t → ⊥
left_length s t d fd f at mode x live is step =
    left Never Never (called s d (call.Length fd)).refusals x (
      not-so Never refuse.NoDomain _ (alive s d live),
      (
        not-so Never refuse.BadFd _ (open-fd s d fd (on.File f at mode) is),
        (not-so Never refuse.WrongMode _ (file-on s d fd f at mode is), tt),
      ),
    )
    (λ late. late) step.0
