use Rattle.std.proofs.Common.{rules, refl}
use Rattle.iol_desc.specs.Tables.{domains_of}
use Rattle.iol_kernel.specs.Kernel.{state_of}
use Rattle.iol_kernel.proofs.State.Effects.{grown-read, grown-sound}
use Rattle.iol_kernel.proofs.State.Stay.{stays_here}
use Rattle.iol_kernel.proofs.kernel.Kernel.domain_new.Goals as goal

pub returns : goal.returns
returns c =
    let h = state_of c.args.self.now in
    record {
      step =
          λ f keeps. (
            search (rules),
            search (rules),
            grown-read f h (domains_of c.add_domain.new.self) c.in_ok-add_domain.ensures.ok,
          );
      arena = refl;
      pools = refl;
      sums = refl;
      cache = refl;
      roomy = search (rules);
      refused = tt;
      sound = grown-sound h (domains_of c.add_domain.new.self) c.requires c.in_ok-add_domain.ensures.ok;
      stays = stays_here h.store;
    }
