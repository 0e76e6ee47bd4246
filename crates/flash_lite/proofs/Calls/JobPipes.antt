-- The results of the calls that make job pipes.
use Rattle.std.proofs.Common.{◌≡◌, ℕ, zero, suc, ◌+◌, ◌==◌, ◌≤◌, List, [], ◌∷◌, ◌++◌, length, map, replicate, refl, sym}
use Rattle.std.proofs.Common.{subst, ap, ◌∙◌, arith, append_assoc, Option, Some, None, true, false, Bool}
use Rattle.std.specs.Prelude.{if◌then◌else◌, slice_set, nat_lt}
use Rattle.std.specs.List.{range_with_len, flat_map}
use Rattle.std.proofs.lemmas.Bool.Decides.{nat_tests}
use Rattle.std.proofs.lemmas.Grind.{common_steps}
use Rattle.std.proofs.lemmas.List.{length-replicate, replicate-append-replicate}
use Rattle.std.proofs.lemmas.List.FromFn.{length-map-range_with_len}
use Rattle.iol_core.specs.Text.{Text}
use Rattle.iol_core.specs.NumberedLists.{lowest, placed, numbered_or, with_numbered}
use Rattle.iol_core.specs.Calls.Descriptors.{with_read_end, with_fds, opened, freed, given_to}
use Rattle.iol_core.specs.State.{State, Domain, Pipe, domain, with_domain, new_pipe, no_domain}
use Rattle.iol_core.specs.declared.descriptors.Descriptor.{Descriptor}
use Rattle.iol_core.specs.declared.descriptors.Descriptor.TheVariants as on
use Rattle.iol_core.specs.declared.events.Call.TheVariants as call
use Rattle.iol_core.specs.declared.events.Event.{Event}
use Rattle.flash_lite.specs.Setup.{call_by, pipe_given}
use Rattle.flash_lite.specs.SiteState.{placing_in_work, worker_of, guest}
use Rattle.flash_lite.proofs.GatheredLists.{map_more}
use Rattle.flash_lite.proofs.Calls.PassedRuns.{Passes, over}
use Rattle.flash_lite.proofs.Calls.DomainsAndPools.{numbered-there, with-there}

-- ---- places

abbrev writes : (a n : ℕ) → List (Option Descriptor)
writes a n = map (λ p. Some (on.WriteEnd p)) (range_with_len a n)

lowest-taken : {A : Type 0} (x : A) (l : List (Option A)) → lowest (Some x ∷ l) ≡ lowest l + 1
lowest-taken x l = grind (arith, nat_tests, common_steps)

-- if all indices are used, the lowest free one is after them
lowest-writes : (n a : ℕ) → lowest (writes a n) ≡ n
lowest-writes zero a = refl
lowest-writes (suc n) a = let r = lowest-writes n (a + 1) in lowest-taken (on.WriteEnd a) (writes (a + 1) n)
    ∙ (let e : lowest (writes (a + 1) n) + 1 ≡ suc n = omega (arith, r) in e)

lowest-pipes : (n : ℕ) → lowest (replicate n (Some new_pipe)) ≡ n
lowest-pipes zero = refl
lowest-pipes (suc n) = let r = lowest-pipes n in lowest-taken new_pipe (replicate n (Some new_pipe))
    ∙ (let e : lowest (replicate n (Some new_pipe)) + 1 ≡ suc n = omega (arith, r) in e)

placed-past : {A : Type 0} (l : List (Option A)) (n : ℕ) (x : A) → n ≡ length l → placed l n x ≡ l ++ Some x ∷ []
placed-past l n x is = let past : nat_lt n (length l) ≡ false = grind (arith, nat_tests, is) in
    ap (λ (b : Bool). if b then slice_set l n (Some x) else l ++ Some x ∷ []) past

placed-first : {A : Type 0} (o : Option A) (l : List (Option A)) (x : A) → placed (o ∷ l) 0 x ≡ Some x ∷ l
placed-first o l x = let there : nat_lt 0 (length (o ∷ l)) ≡ true = grind (arith, nat_tests) in
    ap (λ (b : Bool). if b then Some x ∷ l else (o ∷ l) ++ Some x ∷ []) there

-- ---- a pipe

-- the server's descriptors after that many pipes are made and their read ends are given to workers
abbrev pub fds_at : ℕ → List (Option Descriptor)
fds_at zero = []
fds_at (suc k) = None ∷ writes 0 (suc k)

-- with both ends of one more pipe
abbrev with_ends : List (Option Descriptor) → (p : ℕ) → List (Option Descriptor)
with_ends fds p = placed (with_read_end fds p) (lowest (with_read_end fds p)) (on.WriteEnd p)

ends_behind : (k : ℕ)
    → placed (Some (on.ReadEnd k) ∷ writes 0 k) (lowest (Some (on.ReadEnd k) ∷ writes 0 k)) (on.WriteEnd k)
    ≡ Some (on.ReadEnd k) ∷ writes 0 (k + 1)
ends_behind k =
    let low = lowest-writes k 0 in
    let len = length-map-range_with_len (λ p. Some (on.WriteEnd p)) 0 k in
    let e : lowest (Some (on.ReadEnd k) ∷ writes 0 k) ≡ length (Some (on.ReadEnd k) ∷ writes 0 k) =
    lowest-taken (on.ReadEnd k) (writes 0 k) ∙ (let f : lowest (writes 0 k) + 1 ≡ suc (length (writes 0 k)) =
    omega (arith, low, len) in f) in
    let none : List (Option Descriptor) = [] in
    placed-past (Some (on.ReadEnd k) ∷ writes 0 k) (lowest (Some (on.ReadEnd k) ∷ writes 0 k)) (on.WriteEnd k) e
    ∙ ap (λ (l : List (Option Descriptor)). Some (on.ReadEnd k) ∷ l)
    (map_more (λ p. Some (on.WriteEnd p)) none (writes 0 k) k refl)

ends_made : (k : ℕ) → with_ends (fds_at k) k ≡ Some (on.ReadEnd k) ∷ writes 0 (k + 1)
ends_made zero = refl
ends_made (suc k) =
    let free : with_read_end (fds_at (suc k)) (suc k) ≡ Some (on.ReadEnd (suc k)) ∷ writes 0 (suc k) =
    placed-first None (writes 0 (suc k)) (on.ReadEnd (suc k)) in
    ap (λ (l : List (Option Descriptor)). placed l (lowest l) (on.WriteEnd (suc k))) free ∙ ends_behind (suc k)

abbrev pub pipes_for : ℕ → List (Option Pipe)
pipes_for k = replicate k (Some new_pipe)

pipe_behind : (k : ℕ) → placed (pipes_for k) k new_pipe ≡ pipes_for (k + 1)
pipe_behind k = placed-past (pipes_for k) k new_pipe (sym (length-replicate k (Some new_pipe)))
    ∙ replicate-append-replicate k 1 (Some new_pipe)

abbrev pub at : State → (server : Domain Text) → (others : List (Domain Text)) → List (Option Pipe) → State
at s server others pipes = record s { domains = server ∷ others; pipes = pipes }

abbrev pub workers_for : ℕ → List (Domain Text)
workers_for k = map worker_of (range_with_len 0 k)

workers_more : (k : ℕ) (rest : List (Domain Text)) → workers_for k ++ worker_of k ∷ rest ≡ workers_for (k + 1) ++ rest
workers_more k rest =
    let none : List (Domain Text) = [] in
    sym (append_assoc (workers_for k) (worker_of k ∷ []) rest)
    ∙ ap (λ (l : List (Domain Text)). l ++ rest) (map_more worker_of none (workers_for k) k refl)

module _ (Of : List (List ℕ) → Type 0) where
  piped : (k : ℕ) (s t : State) (others : List (Domain Text)) (es : List Event)
      → Passes Of (at s (placing_in_work (fds_at k)) others (pipes_for k)) (call_by 1 call.Pipe ∷ es) t
      → Passes Of (at s (placing_in_work (Some (on.ReadEnd k) ∷ writes 0 (k + 1))) others (pipes_for (k + 1))) es t
  unfolding domain with_domain
  piped k s t others es all =
      let made : Passes Of (at s (placing_in_work (with_ends (fds_at k) k)) others (placed (pipes_for k) k new_pipe)) es
      t =
      subst
      (λ (n : ℕ).
      Passes Of (at s (placing_in_work (with_ends (fds_at k) n)) others (placed (pipes_for k) n new_pipe)) es t)
      (lowest-pipes k) all.3 in
      let ends :
      Passes Of (at s (placing_in_work (Some (on.ReadEnd k) ∷ writes 0 (k + 1))) others
      (placed (pipes_for k) k new_pipe)) es t =
      subst
      (λ (l : List (Option Descriptor)).
      Passes Of (at s (placing_in_work l) others (placed (pipes_for k) k new_pipe)) es t) (ends_made k) made in
      subst
      (λ (l : List (Option Pipe)).
      Passes Of (at s (placing_in_work (Some (on.ReadEnd k) ∷ writes 0 (k + 1))) others l) es t) (pipe_behind k)
      ends

  -- the read end is given to the next domain
  given : (k : ℕ) (s t : State) (rest : List (Domain Text)) (pipes : List (Option Pipe))
      (ends : List (Option Descriptor)) (es : List Event)
      → Passes Of (at s (placing_in_work (Some (on.ReadEnd k) ∷ ends)) (workers_for k ++ guest ∷ rest) pipes)
      (call_by 1 (call.GiveFd 0 (2 + k)) ∷ es) t
      → Passes Of (at s (placing_in_work (None ∷ ends)) (workers_for k ++ worker_of k ∷ rest) pipes) es t
  unfolding domain with_domain
  given k s t rest pipes ends es all =
      let server : Domain Text = placing_in_work (Some (on.ReadEnd k) ∷ ends) in
      let start : State = at (over all.0 s) server (workers_for k ++ guest ∷ rest) pipes in
      let none : Domain Text = no_domain in
      let count = length-map-range_with_len worker_of 0 k in
      let nth : 2 + k ≡ 1 + length (server ∷ workers_for k) = omega (arith, count) in
      let differ : (1 == 2 + k) ≡ false = grind (arith, nat_tests) in
      let there : domain start (2 + k) ≡ guest =
      ap (λ (n : ℕ). numbered_or ((server ∷ workers_for k) ++ guest ∷ rest) n none) nth
      ∙ numbered-there (server ∷ workers_for k) rest guest none in
      let moved : Passes Of (over s.slots (given_to start 1 0 (2 + k) (on.ReadEnd k))) es t = all.3 in
      let apart : Passes Of (over s.slots (with_fds (opened start (2 + k) (on.ReadEnd k)) 1 (freed start 1 0))) es t =
      subst
      (λ (b : Bool).
      Passes Of
      (over s.slots
      (if b then with_fds start 1 (placed (freed start 1 0) (lowest (freed start 1 0)) (on.ReadEnd k)) else with_fds
      (opened start (2 + k) (on.ReadEnd k)) 1 (freed start 1 0))) es t) differ moved in
      let open_there : Passes Of (over s.slots (with_fds (with_domain start (2 + k) (worker_of k)) 1 (None ∷ ends))) es
      t =
      subst
      (λ (d : Domain Text).
      Passes Of
      (over s.slots
      (with_fds (with_domain start (2 + k) (record d { fds = placed d.fds (lowest d.fds) (on.ReadEnd k) })) 1
      (None ∷ ends))) es t) there apart in
      let set : with_numbered ((server ∷ workers_for k) ++ guest ∷ rest) (2 + k) (worker_of k)
      ≡ (server ∷ workers_for k) ++ worker_of k ∷ rest =
      ap (λ (n : ℕ). with_numbered ((server ∷ workers_for k) ++ guest ∷ rest) n (worker_of k)) nth
      ∙ with-there (server ∷ workers_for k) rest guest (worker_of k) in
      subst
      (λ (ds : List (Domain Text)).
      Passes Of (over s.slots (with_fds (record start { domains = ds }) 1 (None ∷ ends))) es t) set open_there

  -- one more worker has a pipe
  pub pipe_made : (k : ℕ) (s t : State) (rest : List (Domain Text)) (es : List Event)
      → Passes Of (at s (placing_in_work (fds_at k)) (workers_for k ++ guest ∷ rest) (pipes_for k)) (pipe_given k ++ es)
      t → Passes Of (at s (placing_in_work (fds_at (k + 1))) (workers_for (k + 1) ++ rest) (pipes_for (k + 1))) es t
  pipe_made k s t rest es all =
      let one = piped k s t (workers_for k ++ guest ∷ rest) (call_by 1 (call.GiveFd 0 (2 + k)) ∷ es) all in
      let two = given k s t rest (pipes_for (k + 1)) (writes 0 (k + 1)) es one in
      let fds : None ∷ writes 0 (k + 1) ≡ fds_at (k + 1) = ends_at (k + 1) (omega arith) in
      let three :
      Passes Of (at s (placing_in_work (fds_at (k + 1))) (workers_for k ++ worker_of k ∷ rest) (pipes_for (k + 1)))
      es t =
      subst
      (λ (l : List (Option Descriptor)).
      Passes Of (at s (placing_in_work l) (workers_for k ++ worker_of k ∷ rest) (pipes_for (k + 1))) es t) fds
      two in
      subst (λ (ds : List (Domain Text)). Passes Of (at s (placing_in_work (fds_at (k + 1))) ds (pipes_for (k + 1))) es
      t) (workers_more k rest) three
    where
      ends_at : (n : ℕ) → 1 ≤ n → None ∷ writes 0 n ≡ fds_at n
      ends_at zero le = absurd (omega (arith, le))
      ends_at (suc n) le = refl

  -- ---- all pipes

  pub pipes_made : (n k g : ℕ) (s t : State)
      → Passes Of (at s (placing_in_work (fds_at k)) (workers_for k ++ replicate (n + g) guest) (pipes_for k))
      (flat_map pipe_given (range_with_len k n)) t
      → t ≡ at s (placing_in_work (fds_at (k + n))) (workers_for (k + n) ++ replicate g guest) (pipes_for (k + n))
  pipes_made zero k g s t all =
      let e : k ≡ k + 0 = omega arith in
      let z : 0 + g ≡ g = omega arith in
      all ∙ (ap (λ (m : ℕ). at s (placing_in_work (fds_at k)) (workers_for k ++ replicate m guest) (pipes_for k)) z
      ∙ ap (λ (m : ℕ). at s (placing_in_work (fds_at m)) (workers_for m ++ replicate g guest) (pipes_for m)) e)
  pipes_made (suc n) k g s t all =
      let e : suc n + g ≡ suc (n + g) = omega arith in
      let f : (k + 1) + n ≡ k + suc n = omega arith in
      let es = flat_map pipe_given (range_with_len (k + 1) n) in
      let start :
      Passes Of (at s (placing_in_work (fds_at k)) (workers_for k ++ guest ∷ replicate (n + g) guest) (pipes_for k))
      (pipe_given k ++ es) t =
      subst
      (λ (m : ℕ). Passes Of (at s (placing_in_work (fds_at k)) (workers_for k ++ replicate m guest) (pipes_for k))
      (pipe_given k ++ es) t) e all in
      pipes_made n (k + 1) g s t (pipe_made k s t (replicate (n + g) guest) es start)
      ∙ ap (λ (m : ℕ). at s (placing_in_work (fds_at m)) (workers_for m ++ replicate g guest) (pipes_for m)) f
