-- The table of domains, generic in the type of an aggregate.
use Rattle.std.specs.Prelude.{◌≡◌, ◌≢◌, ◌<◌, ◌≤◌, ◌^◌, ℕ, ◌+◌, ◌==◌, ◌||◌, Bool, nat_lt, List, [], ◌∷◌, ◌++◌, length}
use Rattle.std.specs.Prelude.{Option, Some, None, map, sum_by, slice_set, Result, IfOk, OnOk, OnErr}
use Rattle.std.specs.List.{AllByRecursion, position_or_len}
use Rattle.iol_core.specs.State.{Domain, no_domain}
use Rattle.iol_core.specs.NumberedLists.{numbered_or, with_numbered, lookup, without, lowest, placed, taken}
use Rattle.iol_core.specs.Calls.Descriptors.{with_read_end}
use Rattle.iol_core.specs.declared.descriptors.Descriptor.{Descriptor}
use Rattle.iol_core.specs.declared.descriptors.Descriptor.TheVariants as on
use Rattle.iol_core.specs.declared.limits.TheConstants.{MAX_AGGREGATES, LAST_AGGREGATE}

-- a domain, and the number of aggregates that it can add without allocating
pub record Row (A : Type 0) : Type 0 where
  pub domain : Domain A
  pub room : ℕ

-- a domain has as many aggregates as before, and room for no fewer
pub record KeepsAggs {A : Type 0} (old new : Row A) : Type 0 where
  pub room : old.room ≤ new.room
  pub count : length new.domain.aggs ≡ length old.domain.aggs

-- places, some of which are free, and the number of places that can be taken without allocating
pub record Slots (A : Type 0) : Type 0 where
  pub places : List (Option A)
  pub room : ℕ

abbrev pub no_row : {A : Type 0} → Row A
no_row = record { domain = no_domain; room = 0 }

abbrev pub domains_of : {A : Type 0} → List (Row A) → List (Domain A)
domains_of rows = map (λ r. r.domain) rows

unfoldable pub row_in : {A : Type 0} → List (Row A) → (d : ℕ) → Row A
row_in rows d = numbered_or rows d no_row

abbrev pub room_in : {A : Type 0} → List (Row A) → (d : ℕ) → ℕ
room_in rows d = (row_in rows d).room

unfoldable pub domain_in : {A : Type 0} → List (Domain A) → (d : ℕ) → Domain A
domain_in ds d = numbered_or ds d no_domain

unfoldable pub with_domain_in : {A : Type 0} → List (Domain A) → (d : ℕ) → Domain A → List (Domain A)
with_domain_in ds d x = with_numbered ds d x

abbrev pub with_default_in : {A : Type 0} → List (Domain A) → (d pool : ℕ) → List (Domain A)
with_default_in ds d pool = with_domain_in ds d (record (domain_in ds d) { default = Some pool })

-- Aggregates, under rising numbers.

abbrev pub aggs_in : {A : Type 0} → List (Domain A) → (d : ℕ) → List (ℕ × A)
aggs_in ds d = (domain_in ds d).aggs

abbrev pub agg_in : {A : Type 0} → List (Domain A) → (d a : ℕ) → Option A
agg_in ds d a = lookup (domain_in ds d).aggs a

abbrev pub with_aggs_in : {A : Type 0} → List (Domain A) → (d : ℕ) → List (ℕ × A) → List (Domain A)
with_aggs_in ds d aggs = with_domain_in ds d (record (domain_in ds d) { aggs = aggs })

-- a domain with x under its next number
abbrev pub with_next : {A : Type 0} → Domain A → A → Domain A
with_next d x = record d { aggs = d.aggs ++ (d.next_agg, x) ∷ []; next_agg = d.next_agg + 1 }

abbrev pub with_agg_in : {A : Type 0} → List (Domain A) → (d : ℕ) → A → List (Domain A)
with_agg_in ds d x = with_domain_in ds d (with_next (domain_in ds d) x)

-- the domains, without the aggregate of this number of domain d
abbrev pub without_agg_in : {A : Type 0} → List (Domain A) → (d a : ℕ) → List (Domain A)
without_agg_in ds d a = with_aggs_in ds d (without (domain_in ds d).aggs a)

-- the index of the entry of this number, or the length if there is none
abbrev pub place_in : {A : Type 0} → List (ℕ × A) → (n : ℕ) → ℕ
place_in es n = position_or_len (λ e. e.0 == n) es

-- the entries with x as the value of the number
abbrev pub exchanged : {A : Type 0} → List (ℕ × A) → (n : ℕ) → A → List (ℕ × A)
exchanged es n x = slice_set es (place_in es n) (n, x)

-- A domain got x under its next number: n. It has one aggregate more, and still fewer than 2^64, and room for at most
-- one fewer.
pub record AddsAgg {A : Type 0} (old new : Row A) (x : A) (n : ℕ) : Type 0 where
  pub number : n ≡ old.domain.next_agg
  pub added : new.domain ≡ with_next old.domain x
  pub short : length new.domain.aggs < 2 ^ 64
  pub room : old.room ≤ new.room + 1
  pub count : length new.domain.aggs ≡ length old.domain.aggs + 1

-- A domain gave up its aggregate of number a: x. It has one aggregate fewer, and no less room.
pub record TakesAgg {A : Type 0} (old new : Row A) (a : ℕ) (x : A) : Type 0 where
  pub given : Some x ≡ lookup old.domain.aggs a
  pub rest : new.domain ≡ record old.domain { aggs = without old.domain.aggs a }
  pub room : old.room ≤ new.room
  pub count : length new.domain.aggs + 1 ≡ length old.domain.aggs

-- A domain gave up its aggregate of number a, x, and has `other` under that number. It has as many as before, and no
-- less room.
pub record SwapsAgg {A : Type 0} (old new : Row A) (a : ℕ) (other x : A) : Type 0 where
  pub given : Some x ≡ lookup old.domain.aggs a
  pub swapped : new.domain ≡ record old.domain { aggs = exchanged old.domain.aggs a other }
  pub kept : KeepsAggs old new

-- Domain d of a table got x under its next number: n. No other domain changed, and d has room for at most one fewer.
pub record AddsAggIn {A : Type 0} (old new : List (Row A)) (d : ℕ) (x : A) (n : ℕ) : Type 0 where
  pub number : n ≡ (domain_in (domains_of old) d).next_agg
  pub added : domains_of new ≡ with_agg_in (domains_of old) d x
  pub room : room_in old d ≤ room_in new d + 1

-- Domain d of a table gave up its aggregate of number a: x. No other domain changed, nor its room; d has no less room.
pub record TakesAggIn {A : Type 0} (old new : List (Row A)) (d a : ℕ) (x : A) : Type 0 where
  pub given : Some x ≡ agg_in (domains_of old) d a
  pub rest : domains_of new ≡ without_agg_in (domains_of old) d a
  pub room : room_in old d ≤ room_in new d
  pub others : (e : ℕ) → d ≢ e → room_in new e ≡ room_in old e

-- Domain d of a table gave up its aggregate of number a, x, and has `other` under that number. No other domain changed,
-- and d has no less room.
pub record SwapsAggIn {A : Type 0} (old new : List (Row A)) (d a : ℕ) (other x : A) : Type 0 where
  pub given : Some x ≡ agg_in (domains_of old) d a
  pub swapped : domains_of new ≡ with_aggs_in (domains_of old) d (exchanged (aggs_in (domains_of old) d) a other)
  pub room : room_in old d ≤ room_in new d

-- the aggregates of all domains
abbrev pub live_aggs_in : {A : Type 0} → List (Domain A) → ℕ
live_aggs_in ds = sum_by (λ d. length d.aggs) ds

-- that many aggregates are live, and no domain has more than a list can have
pub record IsCounted {A : Type 0} (live : ℕ) (rows : List (Row A)) : Type 0 where
  pub count : live ≡ live_aggs_in (domains_of rows)
  pub short : AllByRecursion (λ r. length r.domain.aggs < 2 ^ 64) rows

-- whether `made` new aggregates, less `given` consumed ones, exceed the limit of all domains, or the numbers of this
-- one
abbrev pub too_many_in : {A : Type 0} → List (Domain A) → (d made given : ℕ) → Bool
too_many_in ds d made given =
    nat_lt (MAX_AGGREGATES + given) (live_aggs_in ds + made)
    || nat_lt (LAST_AGGREGATE + 1) ((domain_in ds d).next_agg + made)

-- Descriptors, in places.

abbrev pub fds_in : {A : Type 0} → List (Domain A) → (d : ℕ) → List (Option Descriptor)
fds_in ds d = (domain_in ds d).fds

abbrev pub with_fds_in : {A : Type 0} → List (Domain A) → (d : ℕ) → List (Option Descriptor) → List (Domain A)
with_fds_in ds d fds = with_domain_in ds d (record (domain_in ds d) { fds = fds })

-- a domain with its descriptor fd closed
abbrev pub without_fd : {A : Type 0} → Domain A → (fd : ℕ) → Domain A
without_fd d fd = record d { fds = slice_set d.fds fd None }

-- domains, with descriptor fd of d closed
abbrev pub without_fd_in : {A : Type 0} → List (Domain A) → (d fd : ℕ) → List (Domain A)
without_fd_in ds d fd = with_fds_in ds d (slice_set (fds_in ds d) fd None)

-- a domain with its descriptor fd open on x
abbrev pub with_fd : {A : Type 0} → Domain A → (fd : ℕ) → Descriptor → Domain A
with_fd d fd x = record d { fds = slice_set d.fds fd (Some x) }

-- domains, with descriptor fd of d open on x
abbrev pub with_fd_in : {A : Type 0} → List (Domain A) → (d fd : ℕ) → Descriptor → List (Domain A)
with_fd_in ds d fd x = with_fds_in ds d (slice_set (fds_in ds d) fd (Some x))

-- the descriptors, with x open under the lowest free number
abbrev pub with_next_fd : List (Option Descriptor) → Descriptor → List (Option Descriptor)
with_next_fd fds x = placed fds (lowest fds) x

-- the numbers that the ends of a pipe get, the read end first
abbrev pub next_ends : List (Option Descriptor) → (pipe : ℕ) → ℕ × ℕ
next_ends fds p = (lowest fds, lowest (with_read_end fds p))

-- the descriptors, with both ends of a pipe open, the read end first
abbrev pub with_ends : List (Option Descriptor) → (pipe : ℕ) → List (Option Descriptor)
with_ends fds p = with_next_fd (with_read_end fds p) (on.WriteEnd p)

-- a domain has no aggregate, and no descriptor is open
pub record HasNothing {A : Type 0} (d : Domain A) : Type 0 where
  pub no_aggs : d.aggs ≡ []
  pub no_fds : taken d.fds ≡ 0

-- Among the descriptors of an object, which `put` puts into it, the lowest free number was opened, and is returned. A
-- refusal changes nothing.
pub record OpensNext {S E : Type 0} (old new : S) (put : List (Option Descriptor) → S) (fds : List (Option Descriptor))
    (x : Descriptor) (r : Result ℕ E) : Type 0 where
  pub number : IfOk r (λ n. n ≡ lowest fds)
  pub opened : OnOk r (new ≡ put (with_next_fd fds x))
  pub err : OnErr r (new ≡ old)

-- Among the descriptors of an object, which `put` puts into it, both ends of a pipe were opened under the lowest free
-- number, first the read end and then the write end. These numbers are returned. A refusal changes nothing.
pub record OpensEnds {S E : Type 0} (old new : S) (put : List (Option Descriptor) → S) (fds : List (Option Descriptor))
    (pipe : ℕ) (r : Result (ℕ × ℕ) E) : Type 0 where
  pub numbers : IfOk r (λ ends. ends ≡ next_ends fds pipe)
  pub opened : OnOk r (new ≡ put (with_ends fds pipe))
  pub err : OnErr r (new ≡ old)

-- Among the descriptors of an object, which `put` puts into it, fd was closed, and then x opened under the lowest free
-- number: n.
pub record MovesFd {S : Type 0} (new : S) (put : List (Option Descriptor) → S) (fds : List (Option Descriptor)) (fd : ℕ)
    (x : Descriptor) (n : ℕ) : Type 0 where
  pub number : n ≡ lowest (slice_set fds fd None)
  pub moved : new ≡ put (with_next_fd (slice_set fds fd None) x)

-- A domain opens x under its lowest free number, which is returned. A refusal changes nothing.
abbrev pub OpensNextOf : {A E : Type 0} → (old new : Domain A) → Descriptor → Result ℕ E → Type 0
OpensNextOf old new x r = OpensNext old new (λ fds. record old { fds = fds }) old.fds x r

-- A domain opens both ends of a pipe under its lowest free number, first the read end and then the write end. These
-- numbers are returned. A refusal changes nothing.
abbrev pub OpensEndsOf : {A E : Type 0} → (old new : Domain A) → (pipe : ℕ) → Result (ℕ × ℕ) E → Type 0
OpensEndsOf old new pipe r = OpensEnds old new (λ fds. record old { fds = fds }) old.fds pipe r

-- A domain closes fd, and then opens x under its lowest free number: n.
abbrev pub MovesFdOf : {A : Type 0} → (old new : Domain A) → (fd : ℕ) → Descriptor → (n : ℕ) → Type 0
MovesFdOf old new fd x n = MovesFd new (λ fds. record old { fds = fds }) old.fds fd x n

-- Domain d of a table opens x under its lowest free number, which is returned, and no other domain changes. A refusal
-- changes none.
abbrev pub OpensNextIn : {A E : Type 0} → (old new : List (Row A)) → (d : ℕ) → Descriptor → Result ℕ E → Type 0
OpensNextIn old new d x r =
    OpensNext (domains_of old) (domains_of new) (with_fds_in (domains_of old) d) (fds_in (domains_of old) d) x r

-- Domain d of a table opens both ends of a pipe under its lowest free number, first the read end and then the write
-- end. These numbers are returned. No other domain changes, and a refusal changes none.
abbrev pub OpensEndsIn : {A E : Type 0} → (old new : List (Row A)) → (d pipe : ℕ) → Result (ℕ × ℕ) E → Type 0
OpensEndsIn old new d pipe r =
    OpensEnds (domains_of old) (domains_of new) (with_fds_in (domains_of old) d) (fds_in (domains_of old) d) pipe r

-- Domain d of a table closes fd, and then opens x under its lowest free number: n. No other domain changes.
abbrev pub MovesFdIn : {A : Type 0} → (old new : List (Row A)) → (d fd : ℕ) → Descriptor → (n : ℕ) → Type 0
MovesFdIn old new d fd x n =
    MovesFd (domains_of new) (with_fds_in (domains_of old) d) (fds_in (domains_of old) d) fd x n
