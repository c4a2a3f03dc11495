-- Written by derive_files: what is proved of types that contain themselves.
use Rattle.std.specs.Prelude.{◌≡◌, ◌++◌, map, refl, Vec, string_bytes}
use Rattle.std.specs.Global.{Global}
use Rattle.std.proofs.Common.{append_assoc}
use Rattle.nano_value.specs.Meaning.{text, listed}
use Rattle.nano_bin_bytes.specs.BaseCodecs.{codec_as}
use Rattle.nano_bin.specs.ScalarCodecs.{string_codec}
use Rattle.nano_bin.specs.ContainerCodecs.{list_codec}
use Rattle.nano_bin_nested.proofs.NestedLaws.{seen_legal, written_seen}
use Rattle.test_nested_derived.specs.declared.folder.Folder.{Folder}
use Rattle.test_nested_derived.specs.FolderCodecs.{folder_view, folder_means, folder_nested, folder_codec}
use Rattle.test_nested_derived.specs.declared.folder.Folder.TheViews.{out-Folder}

-- ==== Folder

pub folder_written : (x : Folder)
    → folder_codec.canonical.written x
    ≡ (string_codec.canonical.written (out-Folder x).name
    ++ (codec_as (λ (x : Vec Folder Global). x.items) (list_codec folder_codec)).canonical.written (out-Folder x).folders)
folder_written x = written_seen folder_nested x (folder_view x) refl

pub folder_legal : (x : Folder)
    → string_codec.encoding.legal (text (string_bytes (out-Folder x).name))
    → (codec_as (λ (x : Vec Folder Global). x.items) (list_codec folder_codec)).encoding.legal (listed (map folder_means (out-Folder x).folders.items))
    → folder_codec.encoding.legal (folder_means x)
folder_legal x h0 h1 =
    seen_legal folder_nested x (folder_view x) refl
    (record { part = (text (string_bytes (out-Folder x).name), listed (map folder_means (out-Folder x).folders.items)); has = (h0, h1); is = refl })

pub ruleset folder_written_laws = (append_assoc, folder_written)
