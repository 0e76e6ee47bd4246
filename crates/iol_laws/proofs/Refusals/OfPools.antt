-- The refusals that a call on a pool, a call that replaces part of an aggregate, and a call that drops or closes can
-- still get.
use Rattle.std.proofs.Common.{◌≡◌, ◌<◌, ◌≤◌, ℕ, ◌+◌, ◌==◌, List, ◌++◌, length, take, drop, ap, ◌∙◌, refl, sym, arith}
use Rattle.std.proofs.Common.{Some, true, false, Bool}
use Rattle.std.specs.Prelude.{⊤, not, nat_lt, ◌&&◌, ◌||◌, MatchOption}
use Rattle.std.specs.List.{list_all}
use Rattle.std.proofs.lemmas.Bool.Decides.{nat_tests}
use Rattle.iol_core.specs.Text.{Text, bytes_of}
use Rattle.iol_core.specs.State.{State, is_live, descriptor, text, may_read, pool}
use Rattle.iol_core.specs.Meaning.{◌when◌, Never, WantOfMemory, WantOfRoom}
use Rattle.iol_core.specs.Run.{StepsTo, called}
use Rattle.iol_core.specs.Calls.Aggregates as aggs
use Rattle.iol_core.specs.Calls.Pools.{has_place, is_busy}
use Rattle.iol_core.specs.declared.limits.TheConstants.{MAX_AGGREGATE_BYTES, MAX_CHUNKS}
use Rattle.iol_core.specs.declared.refusals.Refusal.{Refusal}
use Rattle.iol_core.specs.declared.refusals.Refusal.TheVariants as refuse
use Rattle.iol_core.specs.declared.descriptors.Descriptor.{Descriptor}
use Rattle.iol_core.specs.declared.events.Call.TheVariants as call
use Rattle.iol_core.specs.declared.events.Event.TheVariants as event
use Rattle.iol_core.specs.declared.events.Reply.TheVariants as reply
use Rattle.iol_laws.specs.Caller.{readable_at}
use Rattle.iol_laws.specs.RefusalsLeft.{LacksNumbers, LacksNumbersOrRoom, IsInUse, HasNoPlace}
use Rattle.iol_laws.proofs.Numbers.{agg-there, text-of}
use Rattle.iol_laws.proofs.Refusals.Calls.{left, may, not-so, of-memory, of-room, alive, long, open-fd}
use Rattle.iol_laws.proofs.Refusals.OfFiles.{pool-there}
use Rattle.iol_laws.proofs.Texts.{bytes-append, bytes-drop, bytes-take, length-bytes}
use Rattle.iol_laws.proofs.Tests.{both-false}

-- a refusal under a condition satisfies a predicate that holds under this condition
where-so : (Is : Refusal → Type 0) (y : Refusal) (b : Bool) → (b ≡ true → Is y) → MatchOption (y when b) ⊤ Is
where-so Is y true so = so refl
where-so Is y false so = tt

both : (a b : Bool) → a ≡ true → b ≡ true → not (a && b) ≡ false
both a b one two = grind (arith, one, two)

read-by : (s : State) (d p : ℕ) → may_read s d p ≡ true → not (may_read s d p) ≡ false
read-by s d p may_see = ap (λ b. not b) may_see

pub left_pool_create : (s t : State) (d chunks : ℕ) (list : List ℕ) (x : Refusal) → is_live s d ≡ true
    → list_all (λ e. is_live s e) list ≡ true → 0 < length list → 0 < chunks → chunks ≤ MAX_CHUNKS
    → StepsTo s (event.Call d (call.PoolCreate chunks list)) (reply.Refused x) t
    → LacksNumbersOrRoom (length s.pools + 1) x
left_pool_create s t d chunks list x live all_live some any few step =
    let Is : Refusal → Type 0 = LacksNumbersOrRoom (length s.pools + 1) in
    left Is (WantOfRoom (length s.pools + 1)) (called s d (call.PoolCreate chunks list)).refusals x (
      not-so Is refuse.NoDomain _ (both (is_live s d) (list_all (λ e. is_live s e) list) live all_live),
      (not-so Is refuse.BadRange _ (in-range (length list) some any few), (may Is refuse.TooMany _ tt, tt)),
    )
    (of-room Is (length s.pools + 1) x tt (λ q q_is. q_is)) step.0
  where
    in-range : (n : ℕ) → 0 < n → 0 < chunks → chunks ≤ MAX_CHUNKS
        → ((n == 0) || (chunks == 0) || nat_lt MAX_CHUNKS chunks) ≡ false
    in-range n some any few = grind (arith, nat_tests, some, any, few)

pub left_pool_close : (s t : State) (d p : ℕ) (x : Refusal) → is_live s d ≡ true → may_read s d p ≡ true
    → (pool s p).closed ≡ false → StepsTo s (event.Call d (call.PoolClose p)) (reply.Refused x) t → IsInUse s p x
left_pool_close s t d p x live may_see open_yet step =
    let Is : Refusal → Type 0 = IsInUse s p in
    left Is Never (called s d (call.PoolClose p)).refusals x (
      not-so Is refuse.NoDomain _ (alive s d live),
      (
        not-so Is refuse.NoPool _ (pool-there s p open_yet),
        (
          not-so Is (refuse.Denied p) _ (read-by s d p may_see),
          (
            not-so Is (refuse.PoolClosed p) _ open_yet,
            (where-so Is (refuse.PoolBusy p) (is_busy s p) (λ busy. (refl, busy)), tt),
          ),
        ),
      ),
    )
    (λ late. absurd late) step.0

pub left_pool_admit : (s t : State) (d p e : ℕ) (x : Refusal) → is_live s d ≡ true → is_live s e ≡ true
    → may_read s d p ≡ true → (pool s p).closed ≡ false
    → StepsTo s (event.Call d (call.PoolAdmit p e)) (reply.Refused x) t → HasNoPlace s p e x
left_pool_admit s t d p e x live other may_see open_yet step =
    let Is : Refusal → Type 0 = HasNoPlace s p e in
    left Is Never (called s d (call.PoolAdmit p e)).refusals x (
      not-so Is refuse.NoDomain _ (both (is_live s d) (is_live s e) live other),
      (
        not-so Is refuse.NoPool _ (pool-there s p open_yet),
        (
          full (has_place (pool s p).domains e) refl,
          (not-so Is (refuse.Denied p) _ (read-by s d p may_see), (not-so Is (refuse.PoolClosed p) _ open_yet, tt)),
        ),
      ),
    )
    (λ late. absurd late) step.0
  where
    full : (b : Bool) → has_place (pool s p).domains e ≡ b
        → MatchOption (refuse.TooMany when not b) ⊤ (HasNoPlace s p e)
    full true is = tt
    full false is = is

pub left_set_pool : (s t : State) (d p : ℕ) (x : Refusal) → is_live s d ≡ true → may_read s d p ≡ true
    → (pool s p).closed ≡ false → StepsTo s (event.Call d (call.SetPool p)) (reply.Refused x) t → ⊥
left_set_pool s t d p x live may_see open_yet step =
    left Never Never (called s d (call.SetPool p)).refusals x (
      not-so Never refuse.NoDomain _ (alive s d live),
      (
        not-so Never refuse.NoPool _ (pool-there s p open_yet),
        (
          not-so Never (refuse.Denied p) _ (read-by s d p may_see),
          (not-so Never (refuse.PoolClosed p) _ open_yet, tt),
        ),
      ),
    )
    (λ late. late) step.0

-- the text after a replacement is as long as its bytes
replaced-long : (s : State) (d a from to b : ℕ) (xs ys : List ℕ) → readable_at s d a ≡ Some xs
    → readable_at s d b ≡ Some ys → length (take from (text s d a) ++ text s d b ++ drop to (text s d a))
    ≡ length (take from xs ++ ys ++ drop to xs)
replaced-long s d a from to b xs ys has_a has_b =
    let x : Text = text s d a in
    let y : Text = text s d b in
    let x_is = text-of s d a xs has_a in
    let front : bytes_of (take from x ++ y) ≡ take from xs ++ ys = bytes-append (take from x) y
    ∙ joined (bytes-take from x ∙ ap (λ (l : List ℕ). take from l) x_is) (text-of s d b ys has_b) in
    let all : bytes_of (take from x ++ y ++ drop to x) ≡ take from xs ++ ys ++ drop to xs =
    bytes-append (take from x ++ y) (drop to x)
    ∙ joined front (bytes-drop to x ∙ ap (λ (l : List ℕ). drop to l) x_is) in
    sym (length-bytes (take from x ++ y ++ drop to x)) ∙ ap (λ (l : List ℕ). length l) all
  where
    joined : {p q v w : List ℕ} → p ≡ v → q ≡ w → p ++ q ≡ v ++ w
    joined {p} {q} {v} {w} one two = ap (λ (l : List ℕ). l ++ q) one ∙ ap (λ (l : List ℕ). v ++ l) two

pub left_replace : (s t : State) (d a from to b : ℕ) (xs ys : List ℕ) (x : Refusal) → is_live s d ≡ true
    → readable_at s d a ≡ Some xs → readable_at s d b ≡ Some ys → from ≤ to → to ≤ length xs
    → length (take from xs ++ ys ++ drop to xs) ≤ MAX_AGGREGATE_BYTES
    → StepsTo s (event.Call d (call.AggReplace a from to b)) (reply.Refused x) t → LacksNumbers x
left_replace s t d a from to b xs ys x live has_a has_b rising inside fits step =
    let Is = LacksNumbers in
    left Is WantOfMemory (called s d (call.AggReplace a from to b)).refusals x (
      not-so Is refuse.NoDomain _ (alive s d live),
      (
        not-so Is refuse.BadAgg _ (both-false (aggs.lacks_agg s d a) (aggs.lacks_agg s d b) (agg-there s d a xs has_a)
            (agg-there s d b ys has_b)),
        (
          not-so Is refuse.BadRange _ (within (length (text s d a)) (length xs) (long s d a xs has_a) inside),
          (
            not-so Is refuse.TooLong _ (bounded _ _ (replaced-long s d a from to b xs ys has_a has_b) fits),
            (may Is refuse.TooMany _ tt, tt),
          ),
        ),
      ),
    )
    (of-memory Is x tt) step.0
  where
    within : (n m : ℕ) → n ≡ m → to ≤ m → (nat_lt to from || nat_lt n to) ≡ false
    within n m same inside = grind (arith, nat_tests, rising, same, inside)

    bounded : (n m : ℕ) → n ≡ m → m ≤ MAX_AGGREGATE_BYTES → nat_lt MAX_AGGREGATE_BYTES n ≡ false
    bounded n m same fits = grind (arith, nat_tests, same, fits)

pub left_close : (s t : State) (d fd : ℕ) (y : Descriptor) (x : Refusal) → is_live s d ≡ true
    → descriptor s d fd ≡ Some y → StepsTo s (event.Call d (call.Close fd)) (reply.Refused x) t → ⊥
left_close s t d fd y x live is step =
    left Never Never (called s d (call.Close fd)).refusals x
    (not-so Never refuse.NoDomain _ (alive s d live), (not-so Never refuse.BadFd _ (open-fd s d fd y is), tt))
    (λ late. late) step.0

pub left_drop : (s t : State) (d a : ℕ) (bytes : List ℕ) (x : Refusal) → is_live s d ≡ true
    → readable_at s d a ≡ Some bytes → StepsTo s (event.Call d (call.AggDrop a)) (reply.Refused x) t → ⊥
left_drop s t d a bytes x live has step =
    left Never Never (called s d (call.AggDrop a)).refusals x
    (not-so Never refuse.NoDomain _ (alive s d live), (not-so Never refuse.BadAgg _ (agg-there s d a bytes has), tt))
    (λ late. late) step.0

pub left_exit : (s t : State) (d : ℕ) (x : Refusal) → is_live s d ≡ true
    → StepsTo s (event.Call d call.Exit) (reply.Refused x) t → ⊥
left_exit s t d x live step =
    left Never Never (called s d call.Exit).refusals x (not-so Never refuse.NoDomain _ (alive s d live), tt)
    (λ late. late) step.0
