-- Every call preserves access, and so does every run of the machine from its first state on.
use Rattle.std.proofs.Common.{inl, inr, ◌≡◌, ℕ, ◌+◌, ◌-◌, ◌==◌, List, [], ◌∷◌, ◌++◌, length, take, drop, ap, ◌∙◌, refl}
use Rattle.std.proofs.Common.{sym, subst, Option, Some, None, true, false, Bool}
use Rattle.std.specs.Prelude.{fold, if◌then◌else◌, option_map, unwrap_or, is_none, Result, Ok, Err}
use Rattle.std.specs.Option.{option_map_or}
use Rattle.iol_core.specs.Text.{Text, labelled, bytes_of, part}
use Rattle.iol_core.specs.NumberedLists.{without, in_place, lowest, placed}
use Rattle.iol_core.specs.State.{State, Domain, Connection, domain, may_read, descriptor, file, content, pipe_at}
use Rattle.iol_core.specs.State.{conn_at, new_domain, no_domain, with_domain, with_pipe, with_conn, with_content, text}
use Rattle.iol_core.specs.State.{new_state}
use Rattle.iol_core.specs.Meaning.{Meaning, Step, first}
use Rattle.iol_core.specs.Access.{may_see, MaySeeAll, MayReadFiles, HasAccess}
use Rattle.iol_core.specs.Calls.Domains.{domain_new, exit}
use Rattle.iol_core.specs.Calls.Pools.{pool_create, pool_close, pool_admit, set_pool, distinct}
use Rattle.iol_core.specs.Calls.Aggregates as aggs
use Rattle.iol_core.specs.Calls.Descriptors as fds
use Rattle.iol_core.specs.Calls.Files as files
use Rattle.iol_core.specs.Calls.Outside.{conn_new, closed_by, flush, drop_clean}
use Rattle.iol_core.specs.Calls.Reads as reading
use Rattle.iol_core.specs.Calls.Writes as writing
use Rattle.iol_core.specs.Run.{called, meaning, StepsTo, Run, outcome}
use Rattle.iol_core.specs.declared.refusals.Refusal.{Refusal}
use Rattle.iol_core.specs.declared.refusals.Refusal.TheVariants.{Denied, NoPool}
use Rattle.iol_core.specs.declared.descriptors.Descriptor.{Descriptor}
use Rattle.iol_core.specs.declared.descriptors.Descriptor.TheVariants as on
use Rattle.iol_core.specs.declared.descriptors.Mode.{Mode}
use Rattle.iol_core.specs.declared.events.Call.{Call}
use Rattle.iol_core.specs.declared.events.Call.TheVariants as call
use Rattle.iol_core.specs.declared.events.Event.{Event}
use Rattle.iol_core.specs.declared.events.Event.TheVariants as event
use Rattle.iol_core.specs.declared.events.Reply.{Reply}
use Rattle.iol_core.proofs.Lookups.{domain-same, domain-push, domain-new_state, may_read-push, may_read-closed}
use Rattle.iol_core.proofs.Lookups.{may_read-admitted, may_read-same, file-push}
use Rattle.iol_core.proofs.TestedLists.{list_all-weaker, list_all-take, list_all-drop, list_all-without, list_all-both}
use Rattle.iol_core.proofs.TestedLists.{list_all-pair, list_all-barred, list_all-take_while, list_all-labelled, passed}
use Rattle.iol_core.proofs.TestedLists.{when-none, when-not}
use Rattle.iol_core.proofs.KeptAccess.{IsAllowed, allowed, KeepsReaders, files_same, access_after, access_same}
use Rattle.iol_core.proofs.KeptAccess.{access_domain, access_pipe, access_conn, access_content, access_fds}
use Rattle.iol_core.proofs.KeptAccess.{access_with_new, access_with_agg, access_without_agg, may_see-text, MayHave}
use Rattle.iol_core.proofs.KeptAccess.{may_read_files-closed_on, may_read_files-opened, may_read-freed, may_read-placed}
use Rattle.iol_core.proofs.KeptAccess.{access_opened, access_moved, may_have-file, may_have-open, access_closed_on}
use Rattle.iol_core.proofs.KeptAccess.{access_all_closed}

-- if access holds before a call that is not refused, it holds after it
abbrev pub KeepsAccess : {A : Type 0} → State → Meaning A → Type 0
KeepsAccess s m = HasAccess s → first m.refusals ≡ None → HasAccess m.after

-- Domains and pools.

access_domain_new : (s : State) (by : ℕ) → KeepsAccess s (domain_new s by)
access_domain_new s by h unrefused =
    let keeps : KeepsReaders s (domain_new s by).after = λ d p. may_read-same s (domain_new s by).after d p refl in
    access_after s (domain_new s by).after keeps (files_same s (domain_new s by).after keeps refl) each
  where
    each : (d : ℕ) → IsAllowed s d (domain (domain_new s by).after d)
    each d = elim (domain-push s new_domain d) [
      | inl same ↦ subst (λ (x : Domain Text). IsAllowed s d x) (sym same) (allowed s h d)
      | inr new ↦
          subst (λ (x : Domain Text). IsAllowed s d x) (sym new.1)
          (record { aggs = refl; default = λ p is. absurd (cc); fds = λ fd f at mode is. absurd (cc) })
    ]

access_pool_create : (s : State) (by chunks : ℕ) (list : List ℕ) → KeepsAccess s (pool_create s by chunks list)
unfolding domain
access_pool_create s by chunks list h unrefused =
    let keeps : KeepsReaders s (pool_create s by chunks list).after =
    may_read-push s (record { domains = distinct list; closed = false }) in
    access_after s (pool_create s by chunks list).after keeps
    (files_same s (pool_create s by chunks list).after keeps refl) (allowed s h)

access_pool_close : (s : State) (by p : ℕ) → KeepsAccess s (pool_close s by p)
unfolding domain
access_pool_close s by p h unrefused =
    access_after s (pool_close s by p).after (may_read-closed s p)
    (files_same s (pool_close s by p).after (may_read-closed s p) refl) (allowed s h)

access_pool_admit : (s : State) (by p d : ℕ) → KeepsAccess s (pool_admit s by p d)
unfolding domain
access_pool_admit s by p d h unrefused =
    access_after s (pool_admit s by p d).after (may_read-admitted s p d)
    (files_same s (pool_admit s by p d).after (may_read-admitted s p d) refl) (allowed s h)

access_set_pool : (s : State) (by p : ℕ) → KeepsAccess s (set_pool s by p)
access_set_pool s by p h unrefused =
    let may = when-not (Denied p) (may_read s by p) (passed (set_pool s by p).refusals 2 unrefused) in
    access_domain s by (record (domain s by) { default = Some p }) h (record {
      aggs = h.aggs by;
      default = λ q is. subst (λ n. may_read s by n ≡ true) (ap (λ (o : Option ℕ). unwrap_or o 0) is) may;
      fds = h.fds by;
    })

-- Aggregates.

default_may_read : (s : State) (d : ℕ) → HasAccess s → is_none (domain s d).default ≡ false
    → may_read s d (aggs.default_pool s d) ≡ true
default_may_read s d h some = by (domain s d).default refl some
  where
    by : (o : Option ℕ) → (domain s d).default ≡ o → is_none o ≡ false → may_read s d (unwrap_or o 0) ≡ true
    by (Some p) is some = h.default d p is
    by None is some = absurd (cc)

access_agg_make : (s : State) (by : ℕ) (bytes : List ℕ) → KeepsAccess s (aggs.agg_make s by bytes)
access_agg_make s by bytes h unrefused =
    let some =
    when-none NoPool (is_none (domain s by).default) (passed (aggs.agg_make s by bytes).refusals 1 unrefused) in
    access_with_agg s by (labelled (aggs.default_pool s by) bytes) h
    (list_all-labelled (may_read s by) (aggs.default_pool s by) bytes (default_may_read s by h some))

access_agg_drop : (s : State) (by a : ℕ) → KeepsAccess s (aggs.agg_drop s by a)
access_agg_drop s by a h unrefused = access_without_agg s by a h

access_agg_dup : (s : State) (by a : ℕ) → KeepsAccess s (aggs.agg_dup s by a)
access_agg_dup s by a h unrefused = access_with_agg s by (text s by a) h (may_see-text s by a h)

access_agg_cut : (s : State) (by a from to : ℕ) → KeepsAccess s (aggs.agg_cut s by a from to)
access_agg_cut s by a from to h unrefused =
    let may = list_all-drop (λ b. may_read s by b.1) from (text s by a) (may_see-text s by a h) in
    access_with_agg s by (part (text s by a) from to) h
    (list_all-take (λ b. may_read s by b.1) (to - from) (drop from (text s by a)) may)

access_agg_split : (s : State) (by a at : ℕ) → KeepsAccess s (aggs.agg_split s by a at)
access_agg_split s by a at h unrefused =
    let n : ℕ = aggs.next_agg s by in
    let t : Text = text s by a in
    let kept : List (ℕ × Text) = without (domain s by).aggs a in
    let front = list_all-take (λ b. may_read s by b.1) at t (may_see-text s by a h) in
    let back = list_all-drop (λ b. may_read s by b.1) at t (may_see-text s by a h) in
    let old = list_all-without (λ e. may_see s by e.1) (domain s by).aggs a (h.aggs by) in
    let all : MaySeeAll s by (kept ++ (n, take at t) ∷ (n + 1, drop at t) ∷ []) =
    list_all-both {A = ℕ × Text} (λ e. may_see s by e.1) kept ((n, take at t) ∷ (n + 1, drop at t) ∷ []) old
    (list_all-pair {A = ℕ × Text} (λ e. may_see s by e.1) (n, take at t) (n + 1, drop at t) front back) in
    access_domain s by (record (domain s by) {
      aggs = kept ++ (n, take at t) ∷ (n + 1, drop at t) ∷ [];
      next_agg =
          n + 2;
    }) h (record { aggs = all; default = h.default by; fds = h.fds by })

access_agg_join : (s : State) (by a b : ℕ) → KeepsAccess s (aggs.agg_join s by a b)
access_agg_join s by a b h unrefused =
    let kept = list_all-without (λ e. may_see s by e.1) (domain s by).aggs a (h.aggs by) in
    let left = list_all-without (λ e. may_see s by e.1) (without (domain s by).aggs a) b kept in
    access_with_new s by (without (without (domain s by).aggs a) b) (text s by a ++ text s by b) h left
    (list_all-both (λ x. may_read s by x.1) (text s by a) (text s by b) (may_see-text s by a h) (may_see-text s by b h))

access_agg_replace : (s : State) (by a from to b : ℕ) → KeepsAccess s (aggs.agg_replace s by a from to b)
access_agg_replace s by a from to b h unrefused =
    let t : Text = text s by a in
    let front = list_all-take (λ x. may_read s by x.1) from t (may_see-text s by a h) in
    let back = list_all-drop (λ x. may_read s by x.1) to t (may_see-text s by a h) in
    access_with_agg s by (take from t ++ text s by b ++ drop to t) h
    (list_all-both (λ x. may_read s by x.1) (take from t ++ text s by b) (drop to t)
    (list_all-both (λ x. may_read s by x.1) (take from t) (text s by b) front (may_see-text s by b h)) back)

access_agg_give : (s : State) (by a to : ℕ) → KeepsAccess s (aggs.agg_give s by a to)
access_agg_give s by a to h unrefused = cases (by == to)
  where
    cases : (b : Bool)
        → HasAccess (if b then aggs.with_new s by (without (domain s by).aggs a) (text s by a) else aggs.without_agg
        (aggs.with_agg s to (text s by a)) by a)
    cases true =
        access_with_new s by (without (domain s by).aggs a) (text s by a) h
        (list_all-without (λ e. may_see s by e.1) (domain s by).aggs a (h.aggs by)) (may_see-text s by a h)
    cases false =
        let may =
        list_all-barred (may_read s to) (text s by a) (passed (aggs.agg_give s by a to).refusals 3 unrefused) in
        access_without_agg (aggs.with_agg s to (text s by a)) by a (access_with_agg s to (text s by a) h may)

-- Descriptors.

access_new_pipe : (s : State) (by : ℕ) → KeepsAccess s (fds.pipe s by)
access_new_pipe s by h unrefused =
    let ends = fds.with_read_end (domain s by).fds (lowest s.pipes) in
    let both = placed ends (lowest ends) (on.WriteEnd (lowest s.pipes)) in
    let one = may_read-placed s by (fds.next_fd s by) (domain s by).fds (on.ReadEnd (lowest s.pipes)) (h.fds by)
    (λ f at mode is. absurd (cc)) in
    let two =
    may_read-placed s by (lowest ends) ends (on.WriteEnd (lowest s.pipes)) one (λ f at mode is. absurd (cc)) in
    access_same (fds.with_fds s by both) (fds.pipe s by).after (access_fds s by both h two) refl refl refl

access_given : (s : State) (by fd to : ℕ) (x : Descriptor) → HasAccess s → MayHave s by x → MayHave s to x
    → HasAccess (fds.given_to s by fd to x)
access_given s by fd to x h mine theirs = cases (by == to)
  where
    may : MayReadFiles s by (fds.freed s by fd)
    may = may_read-freed s by fd (domain s by).fds (h.fds by)

    cases : (b : Bool)
        → HasAccess
        (if b then fds.with_fds s by (placed (fds.freed s by fd) (lowest (fds.freed s by fd)) x) else fds.with_fds
        (fds.opened s to x) by (fds.freed s by fd))
    cases true =
        access_fds s by (placed (fds.freed s by fd) (lowest (fds.freed s by fd)) x) h
        (may_read-placed s by (lowest (fds.freed s by fd)) (fds.freed s by fd) x may mine)
    cases false =
        access_fds (fds.opened s to x) by (fds.freed s by fd) (access_opened s to x h theirs)
        (may_read_files-opened s to x by (fds.freed s by fd) may)

-- the receiver of a descriptor may have it, if giving it is not denied
may_have-given : (s : State) (to : ℕ) (x : Descriptor) → fds.denied_by s to (fds.needed_pool s (Some x)) ≡ None
    → MayHave s to x
may_have-given s to (on.File f at mode) unrefused =
    may_have-file s to f at mode (when-not (Denied (file s f).pool) (may_read s to (file s f).pool) unrefused)
may_have-given s to (on.ReadEnd p) unrefused = λ g at mode is. absurd (cc)
may_have-given s to (on.WriteEnd p) unrefused = λ g at mode is. absurd (cc)
may_have-given s to (on.Connection c) unrefused = λ g at mode is. absurd (cc)

access_give_fd : (s : State) (by fd to : ℕ) → KeepsAccess s (fds.give_fd s by fd to)
access_give_fd s by fd to h unrefused =
    cases (descriptor s by fd) refl (passed (fds.give_fd s by fd to).refusals 3 unrefused)
  where
    cases : (o : Option Descriptor) → descriptor s by fd ≡ o → fds.denied_by s to (fds.needed_pool s o) ≡ None
        → HasAccess (option_map_or (fds.given_to s by fd to) o s)
    cases None is may = h
    cases (Some x) is may = access_given s by fd to x h (may_have-open s by fd x h is) (may_have-given s to x may)

access_close : (s : State) (by fd : ℕ) → KeepsAccess s (fds.close s by fd)
access_close s by fd h unrefused =
    let may = may_read-freed s by fd (domain s by).fds (h.fds by) in
    access_fds (fds.closed_on s (descriptor s by fd)) by (fds.freed s by fd) (access_closed_on s (descriptor s by fd) h)
    (may_read_files-closed_on s (descriptor s by fd) by (fds.freed s by fd) may)

access_accept : (s : State) (by : ℕ) → KeepsAccess s (fds.accept s by)
access_accept s by h unrefused =
    let c : ℕ = unwrap_or (fds.waiting s by) 0 in
    let x : Connection = record (conn_at s c) { accepted = true } in
    let taken : State = with_conn s c x in
    access_opened taken by (on.Connection c) (access_conn s c x h) (λ f at mode is. absurd (cc))

access_exit : (s : State) (by : ℕ) → KeepsAccess s (exit s by)
access_exit s by h unrefused =
    let closed : State = fold fds.closed_on s (domain s by).fds in
    access_domain closed by no_domain (access_all_closed s (domain s by).fds h)
    (record { aggs = refl; default = λ p is. absurd (cc); fds = λ fd f at mode is. absurd (cc) })

-- Reading and writing.

access_read_on : (s : State) (by fd : ℕ) (from : Option Descriptor) (count : ℕ) → descriptor s by fd ≡ from
    → HasAccess s → HasAccess (reading.read_on s by fd from count)
access_read_on s by fd None count open_on h = h
access_read_on s by fd (Some (on.File f at mode)) count open_on h =
    access_moved s by fd (on.File f (at + count) mode) h
    (may_have-file s by f (at + count) mode (h.fds by fd f at mode open_on))
access_read_on s by fd (Some (on.ReadEnd p)) count open_on h =
    access_pipe s p (record (pipe_at s p) { queue = drop count (pipe_at s p).queue }) h
access_read_on s by fd (Some (on.WriteEnd p)) count open_on h = h
access_read_on s by fd (Some (on.Connection c)) count open_on h =
    access_conn s c (record (conn_at s c) { incoming = drop count (conn_at s c).incoming }) h

-- a read leaves the pools unchanged
pools_read_on : (s : State) (by fd : ℕ) (from : Option Descriptor) (count : ℕ)
    → (reading.read_on s by fd from count).pools ≡ s.pools
unfolding with_domain with_pipe with_conn
pools_read_on s by fd None count = refl
pools_read_on s by fd (Some (on.File f at mode)) count = refl
pools_read_on s by fd (Some (on.ReadEnd p)) count = refl
pools_read_on s by fd (Some (on.WriteEnd p)) count = refl
pools_read_on s by fd (Some (on.Connection c)) count = refl

-- a reader may see the bytes that it reads: of a queue it reads only those, and the pool of a file is tested first
may_see-read_text : (s : State) (by : ℕ) (from : Option Descriptor) (n : ℕ) → reading.read_denied s by from n ≡ None
    → may_see s by (reading.read_text s by from n) ≡ true
may_see-read_text s by None n may = list_all-take_while (λ b. may_read s by b.1) (take n [])
may_see-read_text s by (Some (on.File f at mode)) n may =
    list_all-labelled (may_read s by) (file s f).pool (take n (drop at (content s f)))
    (when-not (Denied (file s f).pool) (may_read s by (file s f).pool) may)
may_see-read_text s by (Some (on.ReadEnd p)) n may =
    list_all-take_while (λ b. may_read s by b.1) (take n (pipe_at s p).queue)
may_see-read_text s by (Some (on.WriteEnd p)) n may = list_all-take_while (λ b. may_read s by b.1) (take n [])
may_see-read_text s by (Some (on.Connection c)) n may =
    list_all-take_while (λ b. may_read s by b.1) (take n (conn_at s c).incoming)

access_iol_read : (s : State) (by fd n : ℕ) → KeepsAccess s (reading.iol_read s by fd n)
access_iol_read s by fd n h unrefused =
    let from : Option Descriptor = descriptor s by fd in
    let t : Text = reading.read_text s by from n in
    let after : State = reading.read_on s by fd from (length t) in
    let may = may_see-read_text s by from n (passed (reading.iol_read s by fd n).refusals 4 unrefused) in
    access_with_agg after by t (access_read_on s by fd from (length t) refl h)
    (list_all-weaker (λ b. may_read s by b.1) (λ b. may_read after by b.1) t
    (λ b. may_read-same s after by b.1 (pools_read_on s by fd from (length t))) may)

access_read : (s : State) (by fd n : ℕ) → KeepsAccess s (reading.read s by fd n)
access_read s by fd n h unrefused =
    access_read_on s by fd (descriptor s by fd) (length (reading.read_text s by (descriptor s by fd) n)) refl h

-- the bytes of a file and the position of its descriptor change
access_filled : (s : State) (by fd f at to : ℕ) (mode : Mode) (bytes : List ℕ)
    → descriptor s by fd ≡ Some (on.File f at mode) → HasAccess s
    → HasAccess (fds.with_descriptor (with_content s f bytes) by fd (Some (on.File f to mode)))
unfolding with_content
access_filled s by fd f at to mode bytes open_on h =
    let filled : State = with_content s f bytes in
    let after : HasAccess filled = access_content s f bytes h in
    let still : descriptor filled by fd ≡ Some (on.File f at mode) =
    ap (λ (x : Domain Text). in_place x.fds fd) (domain-same s filled by refl) ∙ open_on in
    access_moved filled by fd (on.File f to mode) after
    (may_have-file filled by f to mode (after.fds by fd f at mode still))

access_written : (s : State) (by fd : ℕ) (to : Option Descriptor) (w : Text) → descriptor s by fd ≡ to → HasAccess s
    → HasAccess (writing.written s by fd to w)
access_written s by fd None w open_on h = h
access_written s by fd (Some (on.File f at mode)) w open_on h =
    access_filled s by fd f at (at + length w) mode (take at (content s f) ++ bytes_of w
    ++ drop (at + length w) (content s f)) open_on h
access_written s by fd (Some (on.ReadEnd p)) w open_on h = h
access_written s by fd (Some (on.WriteEnd p)) w open_on h =
    access_pipe s p (record (pipe_at s p) { queue = (pipe_at s p).queue ++ w }) h
access_written s by fd (Some (on.Connection c)) w open_on h =
    access_conn s c (record (conn_at s c) { outgoing = (conn_at s c).outgoing ++ w }) h

access_iol_write : (s : State) (by fd a : ℕ) → KeepsAccess s (writing.iol_write s by fd a)
access_iol_write s by fd a h unrefused =
    let to : Option Descriptor = descriptor s by fd in
    access_written s by fd to (take (writing.fitting s to (length (text s by a))) (text s by a)) refl h

access_write : (s : State) (by fd : ℕ) (bytes : List ℕ) → KeepsAccess s (writing.write s by fd bytes)
access_write s by fd bytes h unrefused =
    let to : Option Descriptor = descriptor s by fd in
    access_written s by fd to (labelled (writing.pool_for s by to) (take (writing.fitting s to (length bytes)) bytes))
    refl h

-- Files.

access_file_new : (s : State) (by : ℕ) (name : List ℕ) (p : ℕ) → KeepsAccess s (files.file_new s by name p)
unfolding domain
access_file_new s by name p h unrefused =
    let after : State = (files.file_new s by name p).after in
    access_after s after (λ d q. may_read-same s after d q refl) (file-push s (record { name = name; pool = p }))
    (allowed s h)

access_open_file : (s : State) (by : ℕ) (name : List ℕ) (mode : Mode) → KeepsAccess s (files.open_file s by name mode)
access_open_file s by name mode h unrefused =
    let f : ℕ = unwrap_or (files.file_called s name) 0 in
    let may =
    when-not (Denied (file s f).pool) (may_read s by (file s f).pool)
    (passed (files.open_file s by name mode).refusals 3 unrefused) in
    access_opened s by (on.File f 0 mode) h (may_have-file s by f 0 mode may)

access_seek : (s : State) (by fd at : ℕ) → KeepsAccess s (files.seek s by fd at)
access_seek s by fd at h unrefused = cases (descriptor s by fd) refl
  where
    unset : HasAccess (fds.with_descriptor s by fd None)
    unset = access_fds s by (fds.freed s by fd) h (may_read-freed s by fd (domain s by).fds (h.fds by))

    cases : (o : Option Descriptor) → descriptor s by fd ≡ o
        → HasAccess (fds.with_descriptor s by fd (option_map (λ x. on.File x.0 at x.2) (files.open_on o)))
    cases None is = unset
    cases (Some (on.File f was mode)) is =
        access_moved s by fd (on.File f at mode) h (may_have-file s by f at mode (h.fds by fd f was mode is))
    cases (Some (on.ReadEnd p)) is = unset
    cases (Some (on.WriteEnd p)) is = unset
    cases (Some (on.Connection c)) is = unset

access_file_length : (s : State) (by fd : ℕ) → KeepsAccess s (files.file_length s by fd)
access_file_length s by fd h unrefused = h

access_fsync : (s : State) (by fd : ℕ) → KeepsAccess s (files.fsync s by fd)
access_fsync s by fd h unrefused = h

access_flush : (s : State) → KeepsAccess s (flush s)
access_flush s h unrefused = h

access_drop_clean : (s : State) → KeepsAccess s (drop_clean s)
access_drop_clean s h unrefused = h

-- Every call, every step, every run.

access_called : (s : State) (by : ℕ) (c : Call) → KeepsAccess s (called s by c)
access_called s by call.DomainNew = access_domain_new s by
access_called s by call.Exit = access_exit s by
access_called s by (call.PoolCreate chunks list) = access_pool_create s by chunks list
access_called s by (call.PoolClose p) = access_pool_close s by p
access_called s by (call.PoolAdmit p d) = access_pool_admit s by p d
access_called s by (call.SetPool p) = access_set_pool s by p
access_called s by (call.AggMake bytes) = access_agg_make s by bytes
access_called s by (call.AggDup a) = access_agg_dup s by a
access_called s by (call.AggCut a from to) = access_agg_cut s by a from to
access_called s by (call.AggSplit a at) = access_agg_split s by a at
access_called s by (call.AggJoin a b) = access_agg_join s by a b
access_called s by (call.AggReplace a from to b) = access_agg_replace s by a from to b
access_called s by (call.AggDrop a) = access_agg_drop s by a
access_called s by (call.AggGive a to) = access_agg_give s by a to
access_called s by (call.Show a) = λ h unrefused. h
access_called s by (call.FileNew name p) = access_file_new s by name p
access_called s by (call.OpenFile name mode) = access_open_file s by name mode
access_called s by call.Pipe = access_new_pipe s by
access_called s by (call.GiveFd fd to) = access_give_fd s by fd to
access_called s by (call.Close fd) = access_close s by fd
access_called s by (call.Seek fd at) = access_seek s by fd at
access_called s by (call.Length fd) = access_file_length s by fd
access_called s by (call.IolRead fd n) = access_iol_read s by fd n
access_called s by (call.IolWrite fd a) = access_iol_write s by fd a
access_called s by (call.Fsync fd) = access_fsync s by fd
access_called s by (call.Read fd n) = access_read s by fd n
access_called s by (call.Write fd bytes) = access_write s by fd bytes
access_called s by call.Accept = access_accept s by

-- External events change no domain and no list.

access_meaning : (s : State) (e : Event) → KeepsAccess s (meaning s e)
access_meaning s (event.Call by c) = access_called s by c
access_meaning s (event.ConnNew p) = λ h unrefused. access_same s (conn_new s p).after h refl refl refl
access_meaning s (event.Arrive c bytes) = λ h unrefused. access_conn s c _ h
access_meaning s (event.PeerClosed c how) = λ h unrefused. access_conn s c (closed_by (conn_at s c) how) h
access_meaning s (event.Transmit c max) =
    λ h unrefused. access_conn s c (record (conn_at s c) { outgoing = drop max (conn_at s c).outgoing }) h
access_meaning s event.Flush = access_flush s
access_meaning s event.DropClean = access_drop_clean s

access_outcome : {A : Type 0} (m : Meaning A) (old new : State) (r : Result A Refusal) → KeepsAccess old m
    → HasAccess old → Step m old r new → HasAccess new
access_outcome m old new (Ok a) keeps h step = subst HasAccess (sym step.2) (keeps h step.0)
access_outcome m old new (Err x) keeps h step = subst HasAccess (sym step.1) h

pub access_step : (old new : State) (e : Event) (r : Reply) → HasAccess old → StepsTo old e r new → HasAccess new
access_step old new e r h step = access_outcome (meaning old e) old new (outcome r) (access_meaning old e) h step

pub access_new : (slots : List (List ℕ)) → HasAccess (new_state slots)
access_new slots = record {
  aggs = λ d. (each d).aggs;
  default = λ d p is. (each d).default p is;
  fds =
      λ d. (each d).fds;
}
  where
    each : (d : ℕ) → IsAllowed (new_state slots) d (domain (new_state slots) d)
    each d = elim (domain-new_state slots d) [
      | inl new ↦
          subst (λ (x : Domain Text). IsAllowed (new_state slots) d x) (sym new)
          (record { aggs = refl; default = λ p is. absurd (cc); fds = λ fd f at mode is. absurd (cc) })
      | inr none ↦ subst (λ (x : Domain Text). IsAllowed (new_state slots) d x) (sym none)
          (record { aggs = refl; default = λ p is. absurd (cc); fds = λ fd f at mode is. absurd (cc) })
    ]

pub access_run : (old new : State) (es : List Event) (rs : List Reply) → HasAccess old → Run old es rs new
    → HasAccess new
access_run old new [] [] h run = subst HasAccess (sym run) h
access_run old new (e ∷ es) (r ∷ rs) h run = access_run run.0 new es rs (access_step old run.0 e r h run.1) run.2
access_run old new [] (r ∷ rs) h run = absurd run
access_run old new (e ∷ es) [] h run = absurd run
