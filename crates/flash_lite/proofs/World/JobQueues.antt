-- Each worker of a site that was set up has its job pipe.
use Rattle.std.proofs.Common.{◌≡◌, ◌∙◌, ℕ, suc, ◌+◌, ◌<◌, List, map, replicate, refl, ap, arith, Option, Some, None}
use Rattle.std.specs.Prelude.{unwrap_or}
use Rattle.std.specs.List.{range_with_len}
use Rattle.std.proofs.lemmas.List.{get_or_append_left, get_or-replicate}
use Rattle.std.proofs.lemmas.List.FromFn.{get_or-map-range_with_len, length-map-range_with_len}
use Rattle.iol_core.specs.NumberedLists.{in_place, numbered_or}
use Rattle.iol_core.specs.State.{Domain, Pipe, domain, pipe_at, new_pipe, no_domain, no_pipe}
use Rattle.iol_core.specs.Text.{Text}
use Rattle.iol_core.specs.declared.descriptors.Descriptor.{Descriptor}
use Rattle.iol_core.specs.declared.descriptors.Descriptor.TheVariants as on
use Rattle.flash_lite.specs.SiteState.{HasJobQueue, domains_of, guest, server_of, state_of, worker_of}
use Rattle.flash_lite.specs.declared.site.Site.{Site}
use Rattle.flash_lite.proofs.World.FixedMachine.{nth}

module _ (s : Site) (slots : List (List ℕ)) (k : ℕ) (within : k < s.workers) where
  -- the worker's domain
  pub worker_there : domain (state_of s slots) (k + 2) ≡ worker_of k
  unfolding domain
  worker_there =
      let none : Domain Text = no_domain in
      let all = domains_of s.workers s.guests in
      let workers = map worker_of (range_with_len 0 s.workers) in
      let len = length-map-range_with_len worker_of 0 s.workers in
      let past : k + 2 ≡ suc k + 1 = omega arith in
      ap (λ (n : ℕ). numbered_or all n none) past
      ∙ (nth all (suc k) none
      ∙ (get_or_append_left workers (replicate s.guests guest) none k (omega (arith, len, within))
      ∙ get_or-map-range_with_len worker_of 0 s.workers k k none within (omega arith)))

  server_there : domain (state_of s slots) 1 ≡ server_of s.workers
  unfolding domain
  server_there = refl

  writes : in_place (server_of s.workers).fds (k + 1) ≡ Some (on.WriteEnd k)
  writes =
      let none : Option Descriptor = None in
      let more : k + 1 ≡ suc k = omega arith in
      ap (λ (n : ℕ). in_place (server_of s.workers).fds n) more
      ∙ get_or-map-range_with_len (λ p. Some (on.WriteEnd p)) 0 s.workers k k none within (omega arith)

  pipe_there : pipe_at (state_of s slots) k ≡ new_pipe
  unfolding pipe_at
  pipe_there =
      let none : Option Pipe = None in
      ap (λ (o : Option Pipe). unwrap_or o no_pipe) (get_or-replicate s.workers k (Some new_pipe) none within)

  pub has_job_queue : HasJobQueue (state_of s slots) k
  has_job_queue = record {
    reads = ap (λ (d : Domain Text). in_place d.fds 0) worker_there;
    writes = ap (λ (d : Domain Text). in_place d.fds (k + 1)) server_there ∙ writes;
    new = pipe_there;
  }
