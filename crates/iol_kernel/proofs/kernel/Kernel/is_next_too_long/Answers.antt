use Rattle.std.proofs.Common.{◌≡◌, ◌+◌, rules, false, arith, length}
use Rattle.std.specs.Prelude.{min, nat_lt}
use Rattle.iol_core.specs.declared.limits.TheConstants.{MAX_FILE_BYTES}
use Rattle.iol_back.specs.Disk.{IfHonest, content, length_reported}
use Rattle.iol_kernel.specs.FileLengths.{AsksNext}
use Rattle.iol_kernel.specs.Kernel.{state_of}
use Rattle.iol_kernel.proofs.FileCalls.FileLengths.{next_long, no_next}
use Rattle.iol_kernel.proofs.FileCalls.FileNames.{last_not_too_long, next_too_long}
use Rattle.iol_kernel.proofs.FileCalls.NewFiles.{reports_next}
use Rattle.iol_kernel.proofs.kernel.Kernel.is_next_too_long.Goals as goal

pub returns-then-count-ge-MAX_FILES : goal.returns-then-count-ge-MAX_FILES
returns-then-count-ge-MAX_FILES g c =
    let h = state_of c.args.self.now in
    record {
      honest = λ honest f stored. last_not_too_long h f (omega (arith));
      reported = reports_next h false c.requires.filed (λ long. absurd (cc long));
      long = no_next (g.B.Backing.disk c.args.backing.now) h (omega (arith));
    }

pub returns : goal.returns
returns g c =
    let h = state_of c.args.self.now in
    let disk = g.B.Backing.disk c.args.backing.now in
    let n = c.length-stored.result in
    let honest : IfHonest disk (n ≡ min (length (content disk.slots (length h.files + 1))) 4294967295) =
    search (rules, c.length-stored.ensures.honest) in
    let reported : n ≡ length_reported disk.reported (length h.files + 1) =
    search (rules, c.length-stored.ensures.reported) in
    let asked : AsksNext disk h (nat_lt MAX_FILE_BYTES n) = record {
      honest = next_too_long disk h n c.requires.filed (omega (arith)) honest;
      reported = reports_next h (nat_lt MAX_FILE_BYTES n) c.requires.filed (λ long. omega (arith));
      long = next_long disk h n (omega (arith)) reported;
    } in
    search (rules, asked)
