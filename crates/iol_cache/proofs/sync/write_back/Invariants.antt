use Rattle.std.proofs.Common.{◌≡◌, ◌+◌, ◌<◌, true, take}
use Rattle.iol_back.specs.Disk.{OthersStay, content, last_failure}
use Rattle.iol_core.specs.Text as text
use Rattle.iol_hold.specs.Places.{byte_len}
use Rattle.iol_hold.specs.Texts.{text_of}
use Rattle.iol_cache.specs.WriteBack.{Stores}
use Rattle.iol_cache.proofs.sync.write_back.Given as goal

abbrev pub invariant-loop-slice : goal.invariant-loop-slice
invariant-loop-slice g l = record {
  to : l.to ≡ l.at + byte_len (take l.slice-index l.slices);
  honest : (g.B.Backing.disk l.backing).honest ≡ (g.B.Backing.disk l.fn.backing).honest;
  failures : (g.B.Backing.disk l.backing).failures ≡ (g.B.Backing.disk l.fn.backing).failures;
  works : 0 < l.slice-index → (g.B.Backing.disk l.fn.backing).failures < last_failure;
  others : (g.B.Backing.disk l.fn.backing).honest ≡ true
      → OthersStay l.file (g.B.Backing.disk l.fn.backing).slots (g.B.Backing.disk l.backing).slots;
  stored : (g.B.Backing.disk l.fn.backing).honest ≡ true
      → Stores l.at (text.bytes_of (text_of l.store (take l.slice-index l.slices)))
      (content (g.B.Backing.disk l.fn.backing).slots l.file) (content (g.B.Backing.disk l.backing).slots l.file);
}
