use Rattle.std.proofs.Common.{◌≡◌, ◌+◌, ◌*◌, ◌<◌, ◌≤◌, true, length, take, drop, min, flat_map}
use Rattle.iol_arena.specs.Parts.{part_pages, part_bytes}
use Rattle.iol_hold.specs.Fillings.{filling_store, filling_parts}
use Rattle.iol_back.specs.Disk.{content, last_failure}
use Rattle.iol_cache.specs.Loads.{WritesFilling}
use Rattle.iol_cache.proofs.read.load.fill_parts.Given as goal

abbrev pub invariant-loop-i : goal.invariant-loop-i
invariant-loop-i g l = record {
  writes : WritesFilling l.fn.filling l.filling;
  honest : (g.B.Backing.disk l.backing).honest ≡ (g.B.Backing.disk l.fn.backing).honest;
  slots : (g.B.Backing.disk l.fn.backing).honest ≡ true
      → (g.B.Backing.disk l.backing).slots ≡ (g.B.Backing.disk l.fn.backing).slots;
  failures : (g.B.Backing.disk l.backing).failures ≡ (g.B.Backing.disk l.fn.backing).failures;
  works : 0 < l.i → (g.B.Backing.disk l.fn.backing).failures < last_failure;
  inside : (g.B.Backing.disk l.fn.backing).honest ≡ true → 0 < l.done
      → l.at + l.done ≤ length (content (g.B.Backing.disk l.fn.backing).slots l.file);
  within : l.i ≤ length (filling_parts l.fn.filling);
  whole : length (flat_map (part_bytes (filling_store l.filling).arena) (take l.i (filling_parts l.fn.filling)))
      ≡ length (part_pages (take l.i (filling_parts l.fn.filling))) * 4096;
  done : l.done ≡ min l.n (length (part_pages (take l.i (filling_parts l.fn.filling))) * 4096);
  read : (g.B.Backing.disk l.fn.backing).honest ≡ true
      → take l.done (flat_map (part_bytes (filling_store l.filling).arena) (take l.i (filling_parts l.fn.filling)))
      ≡ take l.done (drop l.at (content (g.B.Backing.disk l.fn.backing).slots l.file));
}
