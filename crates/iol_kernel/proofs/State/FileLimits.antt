-- Ends and limits, when the extents of files change.
use Rattle.std.proofs.Common.{◌≤◌, List, Option, length}
use Rattle.std.specs.List.{AllByRecursion}
use Rattle.iol_core.specs.State as machine
use Rattle.iol_core.specs.State.{Domain}
use Rattle.iol_core.specs.declared.descriptors.Descriptor.{Descriptor}
use Rattle.iol_core.specs.declared.limits.TheConstants.{MAX_FILES}
use Rattle.iol_hold.specs.declared.slices.Slice.{Slice}
use Rattle.iol_cache.specs.declared.files.CachedFile.{CachedFile}
use Rattle.iol_kernel.specs.KernelState.{AreLimited, IsFile, IsOpenEnd}
use Rattle.iol_kernel.specs.Views.{Objects}
use Rattle.iol_kernel.proofs.State.Sound.{each-weaker}

-- descriptors on open ends stay so
pub ends_weaker : (o p : Objects (List Slice)) (ds : List (Domain (List Slice)))
    → ((x : Option Descriptor) → IsOpenEnd o x → IsOpenEnd p x)
    → AllByRecursion (λ d. AllByRecursion (IsOpenEnd o) d.fds) ds
    → AllByRecursion (λ d. AllByRecursion (IsOpenEnd p) d.fds) ds
ends_weaker o p ds still =
    each-weaker (λ (d : Domain (List Slice)). AllByRecursion (IsOpenEnd o) d.fds)
    (λ (d : Domain (List Slice)). AllByRecursion (IsOpenEnd p) d.fds) ds
    (λ d e. each-weaker (IsOpenEnd o) (IsOpenEnd p) d.fds still e)

pub with_files : {o : Objects (List Slice)} (fs : List machine.File) (cs : List CachedFile) → AreLimited o
    → AllByRecursion IsFile cs → length cs ≤ MAX_FILES → AreLimited (record o { files = fs; cached = cs })
with_files fs cs limits each few =
    record {
      queues = limits.queues;
      few_pipes = limits.few_pipes;
      conns = limits.conns;
      few_conns = limits.few_conns;
      rising = limits.rising;
      last = limits.last;
      cached = each;
      few_files = few;
    }
