use Rattle.std.proofs.Common.{Some, ap, rules, ◌∙◌}
use Rattle.iol_core.specs.declared.descriptors.Descriptor.{Descriptor}
use Rattle.iol_kernel.specs.Kernel.{as_read}
use Rattle.iol_kernel.proofs.FileCalls.Positions.{open_file, wrong_kind}
use Rattle.iol_kernel.proofs.kernel.Kernel.find_open.Goals as goal

pub returns-in_default : goal.returns-in_default
returns-in_default c = record {
  found = tt;
  refused = λ f. wrong_kind (as_read f c.args.self.now) c.args.by c.args.fd c.in_ok-on.on (c.in_ok-on.ensures.live f)
      (c.in_ok-on.ensures.open f) c.in_default.not-File;
  none = search (rules);
}

pub returns : goal.returns
returns c = record {
  found =
      open_file (record {
        sound = c.requires;
        live = c.in_ok-on.ensures.live;
        from = λ f. c.in_ok-on.ensures.open f
            ∙ ap (λ (x : Descriptor). Some x) c.in-File.is;
      });
  refused = tt;
  none = tt;
}
