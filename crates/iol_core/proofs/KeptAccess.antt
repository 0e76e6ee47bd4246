-- Access after each kind of change.
use Rattle.std.proofs.Common.{inl, inr, ◌≡◌, ℕ, ◌+◌, List, [], ◌∷◌, ◌++◌, refl, sym, subst, Option, Some, None, true}
use Rattle.std.proofs.Common.{false}
use Rattle.std.specs.Prelude.{fold, slice_set}
use Rattle.iol_core.specs.Text.{Text}
use Rattle.iol_core.specs.NumberedLists.{without, placed}
use Rattle.iol_core.specs.State.{State, Domain, Pipe, Connection, File, domain, descriptor, file, may_read, pipe_at}
use Rattle.iol_core.specs.State.{conn_at, with_domain, with_pipe, with_conn, with_content, text}
use Rattle.iol_core.specs.Access.{may_see, MaySeeAll, MayReadFiles, HasAccess}
use Rattle.iol_core.specs.Calls.Aggregates as aggs
use Rattle.iol_core.specs.Calls.Descriptors as fds
use Rattle.iol_core.specs.declared.descriptors.Descriptor.{Descriptor}
use Rattle.iol_core.specs.declared.descriptors.Descriptor.TheVariants as on
use Rattle.iol_core.specs.declared.descriptors.Mode.{Mode}
use Rattle.iol_core.proofs.Lookups.{domain-with_domain, domain-same, may_read-same, file-same}
use Rattle.iol_core.proofs.Places.{place-set, place-freed, place-placed}
use Rattle.iol_core.proofs.TestedLists.{list_all-weaker, list_all-push, list_all-without, list_all-lookup}

-- domain d may be x: x may read its aggregates, its default pool and the files that it has open
pub record IsAllowed (s : State) (d : ℕ) (x : Domain Text) : Type 0 where
  pub aggs : MaySeeAll s d x.aggs
  pub default : (p : ℕ) → x.default ≡ Some p → may_read s d p ≡ true
  pub fds : MayReadFiles s d x.fds

pub allowed : (s : State) → HasAccess s → (d : ℕ) → IsAllowed s d (domain s d)
allowed s h d = record { aggs = h.aggs d; default = h.default d; fds = h.fds d }

-- each domain may still read the pools that it could read
abbrev pub KeepsReaders : State → State → Type 0
KeepsReaders s t = (d p : ℕ) → may_read s d p ≡ true → may_read t d p ≡ true

-- each domain may still read the pools of the files that it could read
abbrev pub KeepsFileReaders : State → State → Type 0
KeepsFileReaders s t = (d f : ℕ) → may_read s d (file s f).pool ≡ true → may_read t d (file t f).pool ≡ true

pub files_same : (s t : State) → KeepsReaders s t → t.files ≡ s.files → KeepsFileReaders s t
files_same s t keeps same d f may =
    subst (λ (x : File). may_read t d x.pool ≡ true) (sym (file-same s t f same)) (keeps d (file s f).pool may)

pub access_after : (s t : State) → KeepsReaders s t → KeepsFileReaders s t → ((d : ℕ) → IsAllowed s d (domain t d))
    → HasAccess t
access_after s t keeps files each = record {
  aggs =
      λ d. list_all-weaker (λ e. may_see s d e.1) (λ e. may_see t d e.1) (domain t d).aggs
      (λ e. list_all-weaker (λ b. may_read s d b.1) (λ b. may_read t d b.1) e.1 (λ b. keeps d b.1)) (each d).aggs;
  default = λ d p is. keeps d p ((each d).default p is);
  fds = λ d fd f at mode is. files d f ((each d).fds fd f at mode is);
}

-- the domains, pools and files are unchanged
pub access_same : (s t : State) → HasAccess s → t.domains ≡ s.domains → t.pools ≡ s.pools → t.files ≡ s.files
    → HasAccess t
access_same s t h domains pools files =
    let keeps : KeepsReaders s t = λ d p. may_read-same s t d p pools in
    access_after s t keeps (files_same s t keeps files)
    (λ d. subst (λ (x : Domain Text). IsAllowed s d x) (sym (domain-same s t d domains)) (allowed s h d))

-- one domain changes
pub access_domain : (s : State) (d : ℕ) (x : Domain Text) → HasAccess s → IsAllowed s d x
    → HasAccess (with_domain s d x)
unfolding with_domain
access_domain s d x h new =
    let keeps : KeepsReaders s (with_domain s d x) = λ e p. may_read-same s (with_domain s d x) e p refl in
    access_after s (with_domain s d x) keeps (files_same s (with_domain s d x) keeps refl) each
  where
    each : (e : ℕ) → IsAllowed s e (domain (with_domain s d x) e)
    each e = elim (domain-with_domain s d e x) [
      | inl both ↦ subst (λ (y : Domain Text). IsAllowed s e y) (sym both.1) (subst (λ n. IsAllowed s n x) both.0 new)
      | inr same ↦ subst (λ (y : Domain Text). IsAllowed s e y) (sym same) (allowed s h e)
    ]

pub access_pipe : (s : State) (p : ℕ) (x : Pipe) → HasAccess s → HasAccess (with_pipe s p x)
unfolding with_pipe
access_pipe s p x h = access_same s (with_pipe s p x) h refl refl refl

pub access_conn : (s : State) (c : ℕ) (x : Connection) → HasAccess s → HasAccess (with_conn s c x)
unfolding with_conn
access_conn s c x h = access_same s (with_conn s c x) h refl refl refl

pub access_content : (s : State) (f : ℕ) (bytes : List ℕ) → HasAccess s → HasAccess (with_content s f bytes)
unfolding with_content
access_content s f bytes h = access_same s (with_content s f bytes) h refl refl refl

pub access_fds : (s : State) (d : ℕ) (xs : List (Option Descriptor)) → HasAccess s → MayReadFiles s d xs
    → HasAccess (fds.with_fds s d xs)
access_fds s d xs h may =
    access_domain s d (record (domain s d) { fds = xs }) h
    (record { aggs = h.aggs d; default = h.default d; fds = may })

pub access_with_new : (s : State) (d : ℕ) (kept : List (ℕ × Text)) (t : Text) → HasAccess s → MaySeeAll s d kept
    → may_see s d t ≡ true → HasAccess (aggs.with_new s d kept t)
access_with_new s d kept t h old new =
    let list : List (ℕ × Text) = kept ++ ((domain s d).next_agg, t) ∷ [] in
    let all : MaySeeAll s d list =
    list_all-push {A = ℕ × Text} (λ e. may_see s d e.1) kept ((domain s d).next_agg, t) old new in
    access_domain s d (record (domain s d) { aggs = list; next_agg = (domain s d).next_agg + 1 }) h
    (record { aggs = all; default = h.default d; fds = h.fds d })

pub access_with_agg : (s : State) (d : ℕ) (t : Text) → HasAccess s → may_see s d t ≡ true
    → HasAccess (aggs.with_agg s d t)
access_with_agg s d t h new = access_with_new s d (domain s d).aggs t h (h.aggs d) new

pub access_without_agg : (s : State) (d a : ℕ) → HasAccess s → HasAccess (aggs.without_agg s d a)
access_without_agg s d a h =
    let all : MaySeeAll s d (without (domain s d).aggs a) =
    list_all-without (λ e. may_see s d e.1) (domain s d).aggs a (h.aggs d) in
    access_domain s d (record (domain s d) { aggs = without (domain s d).aggs a }) h
    (record { aggs = all; default = h.default d; fds = h.fds d })

-- a domain may see the bytes of its aggregate
pub may_see-text : (s : State) (d a : ℕ) → HasAccess s → may_see s d (text s d a) ≡ true
may_see-text s d a h = list_all-lookup (may_see s d) (domain s d).aggs a [] refl (h.aggs d)

-- Descriptors.

-- the domain may have the descriptor: if it is on a file, the domain may read the file's pool
abbrev pub MayHave : State → (d : ℕ) → Descriptor → Type 0
MayHave s d x = (f at : ℕ) (mode : Mode) → x ≡ on.File f at mode → may_read s d (file s f).pool ≡ true

-- the pools and files are unchanged
pub may_read_files-same : (s t : State) (d : ℕ) (xs : List (Option Descriptor)) → t.pools ≡ s.pools → t.files ≡ s.files
    → MayReadFiles s d xs → MayReadFiles t d xs
may_read_files-same s t d xs pools files may g f at mode is =
    files_same s t (λ e p. may_read-same s t e p pools) files d f (may g f at mode is)

pub may_read_files-closed_on : (s : State) (o : Option Descriptor) (d : ℕ) (xs : List (Option Descriptor))
    → MayReadFiles s d xs → MayReadFiles (fds.closed_on s o) d xs
unfolding with_pipe with_conn
may_read_files-closed_on s None d xs may = may
may_read_files-closed_on s (Some (on.File f at mode)) d xs may = may
may_read_files-closed_on s (Some (on.ReadEnd p)) d xs may =
    may_read_files-same s (with_pipe s p (record (pipe_at s p) { queue = []; reading = false })) d xs refl refl may
may_read_files-closed_on s (Some (on.WriteEnd p)) d xs may =
    may_read_files-same s (with_pipe s p (record (pipe_at s p) { writing = false })) d xs refl refl may
may_read_files-closed_on s (Some (on.Connection c)) d xs may =
    may_read_files-same s (with_conn s c (record (conn_at s c) { incoming = []; closed = true })) d xs refl refl may

pub may_read_files-opened : (s : State) (to : ℕ) (x : Descriptor) (d : ℕ) (xs : List (Option Descriptor))
    → MayReadFiles s d xs → MayReadFiles (fds.opened s to x) d xs
unfolding with_domain
may_read_files-opened s to x d xs may = may_read_files-same s (fds.opened s to x) d xs refl refl may

pub may_read-freed : (s : State) (d fd : ℕ) (xs : List (Option Descriptor)) → MayReadFiles s d xs
    → MayReadFiles s d (slice_set xs fd None)
may_read-freed s d fd xs may g f at mode is = may g f at mode (place-freed xs fd g (on.File f at mode) is)

pub may_read-placed : (s : State) (d n : ℕ) (xs : List (Option Descriptor)) (x : Descriptor) → MayReadFiles s d xs
    → MayHave s d x → MayReadFiles s d (placed xs n x)
may_read-placed s d n xs x may one g f at mode is =
    elim (place-placed xs n g x (on.File f at mode) is) [ inl new ↦ one f at mode new | inr old ↦ may g f at mode old ]

pub may_read-set : (s : State) (d n : ℕ) (xs : List (Option Descriptor)) (x : Descriptor) → MayReadFiles s d xs
    → MayHave s d x → MayReadFiles s d (slice_set xs n (Some x))
may_read-set s d n xs x may one g f at mode is =
    elim (place-set xs n g x (on.File f at mode) is) [ inl new ↦ one f at mode new | inr old ↦ may g f at mode old ]

-- a further descriptor is opened
pub access_opened : (s : State) (d : ℕ) (x : Descriptor) → HasAccess s → MayHave s d x → HasAccess (fds.opened s d x)
access_opened s d x h may =
    access_fds s d (placed (domain s d).fds (fds.next_fd s d) x) h
    (may_read-placed s d (fds.next_fd s d) (domain s d).fds x (h.fds d) may)

-- a descriptor is replaced
pub access_moved : (s : State) (d fd : ℕ) (x : Descriptor) → HasAccess s → MayHave s d x
    → HasAccess (fds.with_descriptor s d fd (Some x))
access_moved s d fd x h may =
    access_fds s d (slice_set (domain s d).fds fd (Some x)) h (may_read-set s d fd (domain s d).fds x (h.fds d) may)

pub may_have-file : (s : State) (d f at : ℕ) (mode : Mode) → may_read s d (file s f).pool ≡ true
    → MayHave s d (on.File f at mode)
may_have-file s d f at mode may g at2 mode2 is =
    let same : f ≡ g = cc in
    subst (λ n. may_read s d (file s n).pool ≡ true) same may

pub may_have-open : (s : State) (d fd : ℕ) (x : Descriptor) → HasAccess s → descriptor s d fd ≡ Some x → MayHave s d x
may_have-open s d fd x h open_on f at mode is =
    h.fds d fd f at mode (subst (λ (y : Descriptor). descriptor s d fd ≡ Some y) is open_on)

-- a descriptor is closed
pub access_closed_on : (s : State) (o : Option Descriptor) → HasAccess s → HasAccess (fds.closed_on s o)
access_closed_on s None h = h
access_closed_on s (Some (on.File f at mode)) h = h
access_closed_on s (Some (on.ReadEnd p)) h = access_pipe s p (record (pipe_at s p) { queue = []; reading = false }) h
access_closed_on s (Some (on.WriteEnd p)) h = access_pipe s p (record (pipe_at s p) { writing = false }) h
access_closed_on s (Some (on.Connection c)) h =
    access_conn s c (record (conn_at s c) { incoming = []; closed = true }) h

-- all descriptors of a list are closed
pub access_all_closed : (s : State) (list : List (Option Descriptor)) → HasAccess s
    → HasAccess (fold fds.closed_on s list)
access_all_closed s [] h = h
access_all_closed s (o ∷ list) h = access_all_closed (fds.closed_on s o) list (access_closed_on s o h)
