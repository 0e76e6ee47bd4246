-- All calls of a site, in order: their result in a new machine.
use Rattle.std.proofs.Common.{◌≡◌, ℕ, zero, suc, ◌+◌, ◌≤◌, ◌<◌, List, [], ◌∷◌, ◌++◌, length, map, replicate, refl}
use Rattle.std.proofs.Common.{subst, ap, ◌∙◌, arith, Some, true, false, Bool}
use Rattle.std.specs.Prelude.{bytes_eq, position, if◌then◌else◌}
use Rattle.std.specs.List.{range_with_len, slice_get}
use Rattle.std.proofs.lemmas.Bool.Decides.{nat_tests}
use Rattle.std.proofs.lemmas.Grind.{common_steps}
use Rattle.std.proofs.lemmas.List.{length-replicate}
use Rattle.iol_core.specs.Text.{Text}
use Rattle.iol_core.specs.State.{State, Domain, new_state, new_domain}
use Rattle.iol_core.specs.declared.events.Call.TheVariants as call
use Rattle.flash_lite.specs.Setup.{call_by, calls, domains_made as domain_calls, pools_made as pool_calls}
use Rattle.flash_lite.specs.Setup.{defaults_set as default_calls, pipes_made as pipe_calls, file_named, pipe_given}
use Rattle.flash_lite.specs.Setup.{pool, is_private, is_in_range}
use Rattle.flash_lite.specs.SiteState.{placing_in_work, guest, domains_of, pools_of, file_of, state_of}
use Rattle.flash_lite.specs.declared.site.Site.{Site}
use Rattle.flash_lite.specs.declared.site.SiteFile.{SiteFile}
use Rattle.flash_lite.proofs.Calls.FileCalls.{AreFiled, IsShort, files_named}
use Rattle.flash_lite.proofs.Calls.DomainsAndPools.{domains_made, pools_made, defaults_set, in_work}
use Rattle.flash_lite.proofs.Calls.PassedRuns.{Passes, IsPlain, ArePlain, parted, plain-append, plain-map}
use Rattle.flash_lite.proofs.Calls.PassedRuns.{plain-flat_map}
use Rattle.flash_lite.proofs.Calls.JobPipes.{at, fds_at, workers_for, pipes_for, pipes_made}

map-replicate : {A B : Type 0} (f : A → B) (n : ℕ) (x : A) → map f (replicate n x) ≡ replicate n (f x)
map-replicate f zero x = refl
map-replicate {B = B} f (suc n) x = ap (λ (l : List B). f x ∷ l) (map-replicate f n x)

-- the machine after its domains are made, after the pools are made, after all default pools are set, and after the
-- files are named
abbrev peopled : (slots : List (List ℕ)) → (n : ℕ) → State
peopled slots n = record (new_state slots) { domains = new_domain ∷ replicate n new_domain }

abbrev pooled : Site → (slots : List (List ℕ)) → State
pooled s slots = record (peopled slots (s.workers + s.guests)) { pools = pools_of (is_private s) s.workers s.guests }

abbrev placing : Site → (slots : List (List ℕ)) → State
placing s slots = record (pooled s slots) { domains = guest ∷ replicate (s.workers + s.guests) guest }

abbrev holding : Site → (slots : List (List ℕ)) → State
holding s slots = record (placing s slots) { files = map file_of s.files.items }

some_workers : (s : Site) → is_in_range s ≡ true → 1 ≤ s.workers
some_workers s fits = grind (arith, nat_tests, common_steps, fits)

module _ (Of : List (List ℕ) → Type 0) where
  peopled_by : (slots : List (List ℕ)) (n : ℕ) (t : State) → Passes Of (new_state slots) (domain_calls n) t
      → t ≡ peopled slots n
  peopled_by slots n t all = domains_made Of n 0 (new_state slots) t all

  pooled_by : (s : Site) (slots : List (List ℕ)) (t : State)
      → Passes Of (peopled slots (s.workers + s.guests)) (pool_calls s) t → t ≡ pooled s slots
  pooled_by s slots t all = pools_made Of (is_private s) s.workers s.guests s.site_chunks s.net_chunks s.work_chunks
      s.vault_chunks (peopled slots (s.workers + s.guests)) t refl all

  placing_by : (s : Site) (slots : List (List ℕ)) (t : State)
      → Passes Of (pooled s slots) (default_calls (1 + (s.workers + s.guests))) t → t ≡ placing s slots
  placing_by s slots t all =
      let n = s.workers + s.guests in
      let people : List (Domain Text) = new_domain ∷ replicate n new_domain in
      let len = length-replicate n (new_domain {A = Text}) in
      let count : 1 + n ≡ length people = omega (arith, len) in
      let none : List (Domain Text) = [] in
      let each : Passes Of (pooled s slots) (default_calls (length people)) t =
      subst (λ (k : ℕ). Passes Of (pooled s slots) (default_calls k) t) count all in
      defaults_set Of people none 0 (pooled s slots) t refl refl each
      ∙ ap (λ (ds : List (Domain Text)). record (pooled s slots) { domains = guest ∷ ds })
      (map-replicate in_work n new_domain)

  piped_by : (s : Site) (slots : List (List ℕ)) (t : State) → 1 ≤ s.workers
      → Passes Of (holding s slots) (pipe_calls s.workers) t → t ≡ state_of s slots
  piped_by s slots t some all =
      pipes_made Of s.workers 0 s.guests (holding s slots) t all ∙ ends s.workers some
    where
      ends : (w : ℕ) → 1 ≤ w
          → at (holding s slots) (placing_in_work (fds_at (0 + w))) (workers_for (0 + w) ++ replicate s.guests guest)
          (pipes_for (0 + w)) ≡ record (holding s slots) { domains = domains_of w s.guests; pipes = pipes_for w }
      ends zero le = absurd (omega (arith, le))
      ends (suc w) le =
          let e : 0 + suc w ≡ suc w = omega arith in
          ap (λ (k : ℕ). at (holding s slots) (placing_in_work (fds_at k)) (workers_for k ++ replicate s.guests guest)
          (pipes_for k)) e

  -- the state after the calls
  pub record Led (s : Site) (slots : List (List ℕ)) (t : State) : Type 0 where
    pub state : t ≡ state_of s slots
    pub short : (i : ℕ) → i < length s.files.items → IsShort Of (i + 1)
    pub named : (i : ℕ) (x : SiteFile) → slice_get s.files.items i ≡ Some x
        → position (λ f. bytes_eq f.name x.name.items) (map file_of s.files.items) ≡ Some i

  pub led : (s : Site) (slots : List (List ℕ)) (t : State) → is_in_range s ≡ true
      → Passes Of (new_state slots) (calls s) t → Led s slots t
  led s slots t fits all =
      let n = s.workers + s.guests in
      let files = map (λ f. file_named (2 + s.workers) f) s.files.items in
      let domains = domain_calls n in
      let pools = pool_calls s in
      let defaults = default_calls (1 + n) in
      let last = parted Of (((domains ++ pools) ++ defaults) ++ files) (pipe_calls s.workers) (new_state slots) t all in
      let fourth = parted Of ((domains ++ pools) ++ defaults) files (new_state slots) last.mid last.front in
      let third = parted Of (domains ++ pools) defaults (new_state slots) fourth.mid fourth.front in
      let second = parted Of domains pools (new_state slots) third.mid third.front in
      let one : second.mid ≡ peopled slots n = peopled_by slots n second.mid second.front in
      let two : third.mid ≡ pooled s slots =
      pooled_by s slots third.mid (subst (λ (m : State). Passes Of m pools third.mid) one second.back) in
      let three : fourth.mid ≡ placing s slots =
      placing_by s slots fourth.mid (subst (λ (m : State). Passes Of m defaults fourth.mid) two third.back) in
      let four : AreFiled Of (placing s slots) s.files.items last.mid =
      files_named Of s.files.items (2 + s.workers) (placing s slots) last.mid
      (subst (λ (m : State). Passes Of m files last.mid) three fourth.back) in
      let five : last.mid ≡ holding s slots = four.files in
      record {
        state =
            piped_by s slots t (some_workers s fits)
            (subst (λ (m : State). Passes Of m (pipe_calls s.workers) t) five last.back);
        short = λ i lt. let e : 0 + i + 1 ≡ i + 1 = omega arith in subst (λ (k : ℕ). IsShort Of k) e (four.short i lt);
        named = λ i x is. four.named i x is ∙ (let e : 0 + i ≡ i = omega arith in ap (λ (k : ℕ). Some k) e);
      }

-- ---- the calls leave the slots unchanged

plain_named : (guest : ℕ) (f : SiteFile) → IsPlain (file_named guest f)
plain_named guest f =
    elim f.private as
    (λ b.
    IsPlain (if b then call_by guest (call.FileNew f.name.items 4) else call_by 1 (call.FileNew f.name.items 1))) [
      | true ↦ tt
      | false ↦ tt
    ]

plain_pools : (private : Bool) (w g c1 c2 c3 c4 : ℕ)
    → ArePlain ((pool c1 1 (1 + w + g) ∷ pool c2 1 1 ∷ pool c3 1 (1 + w + g) ∷ [])
    ++ (if private then pool c4 (2 + w) 1 ∷ [] else []))
plain_pools true w g c1 c2 c3 c4 = (tt, (tt, (tt, (tt, tt))))
plain_pools false w g c1 c2 c3 c4 = (tt, (tt, (tt, tt)))

pub calls_plain : (s : Site) → ArePlain (calls s)
calls_plain s =
    let n = s.workers + s.guests in
    let files = map (λ f. file_named (2 + s.workers) f) s.files.items in
    let domains = domain_calls n in
    let pools = pool_calls s in
    let defaults = default_calls (1 + n) in
    plain-append (((domains ++ pools) ++ defaults) ++ files) (pipe_calls s.workers)
    (plain-append ((domains ++ pools) ++ defaults) files
    (plain-append (domains ++ pools) defaults
    (plain-append domains pools
    (plain-map (λ k. call_by 1 call.DomainNew) (range_with_len 0 n) (λ k. tt))
    (plain_pools (is_private s) s.workers s.guests s.site_chunks s.net_chunks s.work_chunks s.vault_chunks))
    (plain-map (λ k. call_by (1 + k) (call.SetPool 3)) (range_with_len 0 (1 + n)) (λ k. tt)))
    (plain-map (λ f. file_named (2 + s.workers) f) s.files.items (plain_named (2 + s.workers))))
    (plain-flat_map pipe_given (range_with_len 0 s.workers) (λ k. (tt, (tt, tt))))
