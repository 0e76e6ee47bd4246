-- The effect of opening a file by its name, of its position and of its length for the caller.
use Rattle.std.proofs.Common.{inl, inr, ◌≡◌, ℕ, ◌+◌, ◌⊎◌, List, [], ◌∷◌, ◌++◌, length, ap, ◌∙◌, refl, sym, subst, arith}
use Rattle.std.proofs.Common.{Option, Some, None, true, false, Bool}
use Rattle.std.specs.Prelude.{option_map, slice_set, unwrap_or, not, is_none, is_some, nat_lt, position, bytes_eq}
use Rattle.std.specs.Prelude.{MatchOption}
use Rattle.std.proofs.lemmas.Bool.Decides.{nat_tests}
use Rattle.std.proofs.lemmas.Grind.{common_steps}
use Rattle.std.proofs.lemmas.Slice.Eq.{bytes_eq-Decides}
use Rattle.iol_core.specs.NumberedLists.{numbered_or, is_numbered, in_place}
use Rattle.iol_core.specs.State.{State, Domain, File, domain, descriptor, content, file, no_file, may_read, is_live}
use Rattle.iol_core.specs.Meaning.{first, ◌when◌, Never, FaultOf, WantOfMemory}
use Rattle.iol_core.specs.Run.{StepsTo}
use Rattle.iol_core.specs.Calls.Descriptors as fds
use Rattle.iol_core.specs.Calls.Files as files
use Rattle.iol_core.specs.Calls.Files.{file_called}
use Rattle.iol_core.specs.declared.refusals.Refusal.{Refusal}
use Rattle.iol_core.specs.declared.refusals.Refusal.TheVariants as refuse
use Rattle.iol_core.specs.declared.descriptors.Mode.{Mode}
use Rattle.iol_core.specs.declared.descriptors.Descriptor.{Descriptor}
use Rattle.iol_core.specs.declared.descriptors.Descriptor.TheVariants as on
use Rattle.iol_core.specs.declared.events.Call.TheVariants as call
use Rattle.iol_core.specs.declared.events.Event.TheVariants as event
use Rattle.iol_core.specs.declared.events.Reply.{Reply}
use Rattle.iol_core.specs.declared.events.Reply.TheVariants as reply
use Rattle.iol_core.proofs.TestedLists.{passed, when-none, when-not}
use Rattle.iol_laws.specs.Caller.{is_resource_failure}
use Rattle.iol_laws.specs.CallerFiles.{MakesFile, Opening, Seeks, Reports, Syncs}
use Rattle.iol_laws.proofs.Domains.{domain-with_same}
use Rattle.iol_laws.proofs.Numbers.{new-fd, number}
use Rattle.iol_laws.proofs.Places.{lowest-free, place-set_there}
use Rattle.iol_laws.proofs.Refusals.Rest.{past-live, past-file}
use Rattle.iol_laws.proofs.Tests.{is_some-or}

-- an open descriptor after it is set
pub moved-fd : (s : State) (d fd : ℕ) (x y : Descriptor) → is_live s d ≡ true → descriptor s d fd ≡ Some x
    → descriptor (fds.with_descriptor s d fd (Some y)) d fd ≡ Some y
moved-fd s d fd x y live is =
    ap (λ (z : Domain _). in_place z.fds fd)
    (domain-with_same s d (record (domain s d) { fds = slice_set (domain s d).fds fd (Some y) }) live)
    ∙ place-set_there (domain s d).fds fd x y is

-- Opening.

-- the refusals of `open_file`, in order, if the domain is live
open-refused : (o : Option ℕ) (many may : Bool) (p : ℕ) (x : Refusal)
    → MatchOption
    (first ((refuse.NoFile when is_none o) ∷ (refuse.TooMany when many) ∷ (refuse.Denied p when not may) ∷ []))
    (WantOfMemory x) (λ y. x ≡ y)
    → ((x ≡ refuse.NoFile) × (o ≡ None))
    ⊎ (((x ≡ refuse.Denied p) × (may ≡ false) × (is_none o ≡ false))
    ⊎ (is_resource_failure (reply.Refused x) ≡ true))
open-refused None many may p x is = inl (is, refl)
open-refused (Some f) true may p x is = inr (inr (ap (λ z. is_resource_failure (reply.Refused z)) is))
open-refused (Some f) false false p x is = inr (inl (is, refl, refl))
open-refused (Some f) false true p refuse.Memory is = inr (inr refl)
open-refused (Some f) false true p x is = absurd is

pub does_open : (s t : State) (d : ℕ) (name : List ℕ) (mode : Mode) (r : Reply) → is_live s d ≡ true
    → StepsTo s (event.Call d (call.OpenFile name mode)) r t → Opening s d name mode r t
does_open s t d name mode (reply.Fd fd) live step =
    let f : ℕ = unwrap_or (file_called s name) 0 in
    record {
      file_is = f;
      found =
          is_some-or (file_called s name)
          (when-none refuse.NoFile (is_none (file_called s name))
          (passed (files.open_file s d name mode).refusals 1 step.0));
      may =
          when-not (refuse.Denied (file s f).pool) (may_read s d (file s f).pool)
          (passed (files.open_file s d name mode).refusals 3 step.0);
      open_on = ap (λ k. descriptor t d k) (ap number step.1)
          ∙ (ap (λ u. descriptor u d (fds.next_fd s d)) step.2 ∙ new-fd s d (on.File f 0 mode) live);
      new = ap (λ k. descriptor s d k) (ap number step.1) ∙ lowest-free (domain s d).fds;
    }
does_open s t d name mode (reply.Refused x) live step =
    by x step.1 (open-refused (file_called s name) (fds.too_many_open s d 1) (may_read s d p) p x
    (subst (λ o. MatchOption o (WantOfMemory x) (λ y. x ≡ y)) (past-live s d _ live) step.0))
  where
    p : ℕ
    p = (file s (unwrap_or (file_called s name) 0)).pool

    by : (x : Refusal) → t ≡ s → ((x ≡ refuse.NoFile) × (file_called s name ≡ None))
        ⊎ (((x ≡ refuse.Denied p) × (may_read s d p ≡ false) × (is_none (file_called s name) ≡ false))
        ⊎ (is_resource_failure (reply.Refused x) ≡ true)) → Opening s d name mode (reply.Refused x) t
    by refuse.NoFile same (inl a) = (a.1, same)
    by refuse.NoFile same (inr (inl b)) = (let e = b.0 in absurd (cc))
    by refuse.NoFile same (inr (inr resource_failure)) = absurd (cc)
    by (refuse.Denied q) same (inl a) = (let e = a.0 in absurd (cc))
    by (refuse.Denied q) same (inr (inl b)) =
        let q_is : q ≡ p = ap denied b.0 in (
          record {
            file_is = unwrap_or (file_called s name) 0;
            found = is_some-or (file_called s name) b.2;
            pool_is =
                sym q_is;
            may_not = ap (λ n. may_read s d n) q_is ∙ b.1;
          },
          same,
        )
      where
        denied : Refusal → ℕ
        denied (refuse.Denied n) = n
        denied y = 0
    by (refuse.Denied q) same (inr (inr resource_failure)) = absurd (cc)
    by x same (inl a) = (let e = a.0 in absurd (cc))
    by x same (inr (inl b)) = (let e = b.0 in absurd (cc))
    by x same (inr (inr resource_failure)) = (resource_failure, same)
does_open s t d name mode r live step = (let e = step.1 in absurd (cc))

-- Positions and lengths.

seek-left : (s : State) (d fd f was at : ℕ) (mode : Mode) → is_live s d ≡ true
    → descriptor s d fd ≡ Some (on.File f was mode)
    → first (files.seek s d fd at).refusals ≡ first ((refuse.BadRange when nat_lt (length (content s f)) at) ∷ [])
seek-left s d fd f was at mode live is =
    past-file s d fd f was mode ((refuse.BadRange when nat_lt (length (content s (files.file_on s d fd))) at) ∷ []) live
    is
    ∙ ap
    (λ o.
    first
    ((refuse.BadRange when nat_lt (length (content s (unwrap_or (option_map (λ x. x.0) (files.open_on o)) 0))) at)
    ∷ [])) is

pub does_seek : (s t : State) (d fd f was at : ℕ) (mode : Mode) (r : Reply) → is_live s d ≡ true
    → descriptor s d fd ≡ Some (on.File f was mode) → StepsTo s (event.Call d (call.Seek fd at)) r t
    → Seeks s d fd f at mode r t
does_seek s t d fd f was at mode reply.Done live is step =
    let within =
    when-none refuse.BadRange (nat_lt (length (content s f)) at)
    (passed ((refuse.BadRange when nat_lt (length (content s f)) at) ∷ []) 0
    (sym (seek-left s d fd f was at mode live is) ∙ step.0)) in
    let same : t ≡ fds.with_descriptor s d fd (Some (on.File f at mode)) =
    step.2 ∙ ap (λ o. fds.with_descriptor s d fd (option_map (λ x. on.File x.0 at x.2) (files.open_on o))) is in (
      grind (arith, nat_tests, within),
      ap (λ u. descriptor u d fd) same
          ∙ moved-fd s d fd (on.File f was mode) (on.File f at mode) live is,
    )
does_seek s t d fd f was at mode (reply.Refused x) live is step =
    by (nat_lt (length (content s f)) at) refl
    (subst (λ o. MatchOption o (Never x) (λ y. x ≡ y)) (seek-left s d fd f was at mode live is) step.0)
  where
    by : (b : Bool) → nat_lt (length (content s f)) at ≡ b
        → MatchOption (first ((refuse.BadRange when b) ∷ [])) (Never x) (λ y. x ≡ y)
        → Seeks s d fd f at mode (reply.Refused x) t
    by true past_it is = (is, grind (arith, nat_tests, past_it), step.1)
    by false within is = absurd is
does_seek s t d fd f was at mode r live is step = (let e = step.1 in absurd (cc))

pub does_measure : (s t : State) (d fd f at : ℕ) (mode : Mode) (r : Reply) → is_live s d ≡ true
    → descriptor s d fd ≡ Some (on.File f at mode) → StepsTo s (event.Call d (call.Length fd)) r t
    → Reports s (length (content s f)) r t
does_measure s t d fd f at mode (reply.Count k) live is step =
    (ap number step.1 ∙ ap (λ o. length (content s (unwrap_or (option_map (λ x. x.0) (files.open_on o)) 0))) is, step.2)
does_measure s t d fd f at mode (reply.Refused x) live is step =
    subst (λ o. MatchOption o (Never x) (λ y. x ≡ y)) (past-file s d fd f at mode [] live is) step.0
does_measure s t d fd f at mode r live is step = (let e = step.1 in absurd (cc))

pub does_sync : (s t : State) (d fd f at : ℕ) (mode : Mode) (r : Reply) → is_live s d ≡ true
    → descriptor s d fd ≡ Some (on.File f at mode) → StepsTo s (event.Call d (call.Fsync fd)) r t → Syncs s f r t
does_sync s t d fd f at mode reply.Done live is step = step.2
does_sync s t d fd f at mode (reply.Refused x) live is step =
    let file_is : files.file_on s d fd ≡ f = ap (λ o. unwrap_or (option_map (λ x. x.0) (files.open_on o)) 0) is in (
      by x
          (subst (λ n. FaultOf n x) file_is (subst (λ o. MatchOption o (FaultOf (files.file_on s d fd) x) (λ y. x ≡ y))
          (past-file s d fd f at mode [] live is) step.0)),
      step.1,
    )
  where
    by : (x : Refusal) → FaultOf f x → x ≡ refuse.Fault f
    by (refuse.Fault g) same = ap (λ n. refuse.Fault n) same
    by x never = absurd never
does_sync s t d fd f at mode r live is step = (let e = step.1 in absurd (cc))

-- A new file.

position-push : (p : File → Bool) (xs : List File) (x : File) → position p xs ≡ None → p x ≡ true
    → position p (xs ++ x ∷ []) ≡ Some (length xs)
position-push p [] x none is = grind (arith, common_steps, is)
position-push p (y ∷ xs) x none is = by (p y) refl (position-push p xs x)
  where
    by : (b : Bool) → p y ≡ b → (position p xs ≡ None → p x ≡ true → position p (xs ++ x ∷ []) ≡ Some (length xs))
        → position p ((y ∷ xs) ++ x ∷ []) ≡ Some (length (y ∷ xs))
    by true here rest = absurd (let e : position p (y ∷ xs) ≡ Some 0 = grind (arith, common_steps, here) in
        cc (e, none))
    by false there rest =
        let later : position p xs ≡ None = grind (arith, common_steps, there, none) in
        let e = rest later is in
        grind (arith, common_steps, there, e)

same-name : (name : List ℕ) → bytes_eq name name ≡ true
same-name name = grind (arith, nat_tests, bytes_eq-Decides)

unfound : (o : Option ℕ) → is_some (option_map (λ i. i + 1) o) ≡ false → o ≡ None
unfound None is = refl
unfound (Some i) is = absurd (cc)

number-new : (xs : List File) (x : File) → (is_numbered xs (length xs + 1) ≡ false)
    × (numbered_or (xs ++ x ∷ []) (length xs + 1) no_file ≡ x)
number-new xs x = (grind (arith, nat_tests, common_steps), grind (arith, nat_tests, common_steps))

file-new : (s : State) (x : File) → file (record s { files = s.files ++ x ∷ [] }) (length s.files + 1) ≡ x
unfolding file
file-new s x = (number-new s.files x).1

content-new : (s : State) (x : File) (f : ℕ) → content (record s { files = s.files ++ x ∷ [] }) f ≡ content s f
unfolding content
content-new s x f = refl

-- the number of a file in a reply
abbrev file_in : Reply → ℕ
file_in (reply.File f) = f
file_in r = 0

pub does_make_file : (s t : State) (d : ℕ) (name : List ℕ) (p : ℕ) (r : Reply)
    → StepsTo s (event.Call d (call.FileNew name p)) r t → MakesFile s d name p r t
does_make_file s t d name p (reply.File f) step =
    let f_is : f ≡ length s.files + 1 = ap file_in step.1 in
    let x : File = record { name = name; pool = p } in
    let unknown : position (λ (y : File). bytes_eq y.name name) s.files ≡ None =
    unfound (position (λ (y : File). bytes_eq y.name name) s.files)
    (when-none refuse.WrongMode (is_some (file_called s name))
    (passed (files.file_new s d name p).refusals 2 step.0)) in
    record {
      new = ap (λ n. is_numbered s.files n) f_is ∙ (number-new s.files x).0;
      unknown = ap (λ (o : Option ℕ). option_map (λ i. i + 1) o) unknown;
      found = ap (λ u. file_called u name) step.2
          ∙ (ap (λ (o : Option ℕ). option_map (λ i. i + 1) o)
          (position-push (λ (y : File). bytes_eq y.name name) s.files x unknown (same-name name))
          ∙ ap (λ n. Some n) (sym f_is));
      pool_is = ap (λ n. (file t n).pool) f_is
          ∙ (ap (λ u. (file u (length s.files + 1)).pool) step.2 ∙ ap (λ (y : File). y.pool) (file-new s x));
      bytes_are = ap (λ u. content u f) step.2 ∙ content-new s x f;
      may = when-not (refuse.Denied p) (may_read s d p) (passed (files.file_new s d name p).refusals 6 step.0);
    }
does_make_file s t d name p (reply.Refused x) step = step.1
does_make_file s t d name p r step = (let e = step.1 in absurd (cc))
