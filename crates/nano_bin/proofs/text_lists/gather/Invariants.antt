-- the texts so far are gathered
use Rattle.std.proofs.Common.{◌≡◌, ◌≤◌, take}
use Rattle.std.specs.List.{flat_map}
use Rattle.nano_bin_bytes.specs.Containers.{written_string}
use Rattle.nano_bin.proofs.text_lists.gather.Given as goal

abbrev pub invariant-loop-count : goal.invariant-loop-count
invariant-loop-count l = record {
  inside : l.place ≤ 1024;
  gathered : take l.place l.bytes ≡ flat_map written_string (take l.count l.texts);
}
