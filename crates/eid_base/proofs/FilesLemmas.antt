-- A list of files and one more behind it.
use Rattle.std.proofs.Common.{◌≡◌, ◌≢◌, ℕ, List, [], ◌∷◌, ◌++◌, Option, Some, Bool, true, false, refl, sym, ◌∙◌, length, take, get_or, ◌+◌, ◌<◌}
use Rattle.std.specs.Prelude.{if◌then◌else◌, String, string_bytes, Vec}
use Rattle.std.specs.Str.{bytes_eq}
use Rattle.std.proofs.lemmas.List.{take_more, map-append}
use Rattle.std.proofs.lemmas.Slice.Eq.{bytes_eq-Decides}
use Rattle.std.specs.declared.alloc.Global.{Global}
use Rattle.eid_base.specs.Files.{file_in, plain_files}

-- what the name holds where one more file stands behind
pub file_in-append : (files : List (List ℕ × List ℕ)) (file : List ℕ × List ℕ) (name : List ℕ) → file_in (files ++ file ∷ []) name ≡ (if bytes_eq file.0 name then Some file.1 else file_in files name)
file_in-append [] file name = refl
file_in-append (first ∷ later) file name =
    let held = file_in-append later file name in
    elim (bytes_eq file.0 name) as (λ b. (file_in (later ++ file ∷ []) name ≡ (if b then Some file.1 else file_in later name)) → file_in ((first ∷ later) ++ file ∷ []) name ≡ (if b then Some file.1 else file_in (first ∷ later) name)) [
      | true ↦ λ h. rw h refl
      | false ↦ λ h. rw h refl
    ] held

passed_over : (b : Bool) (x y : Option (List ℕ)) → (b ≡ true → ⊥) → (if b then x else y) ≡ y
passed_over true x y not = absurd (not refl)
passed_over false x y not = refl

pub file_in_same : (files : List (List ℕ × List ℕ)) (name bytes : List ℕ) → file_in (files ++ (name, bytes) ∷ []) name ≡ Some bytes
file_in_same files name bytes =
    let same : bytes_eq name name ≡ true = (bytes_eq-Decides name name).1 refl in
    rw (file_in-append files (name, bytes) name, same) refl

pub file_in_other : (files : List (List ℕ × List ℕ)) (name bytes other : List ℕ) → other ≢ name → file_in (files ++ (name, bytes) ∷ []) other ≡ file_in files other
file_in_other files name bytes other differs =
    file_in-append files (name, bytes) other ∙ passed_over (bytes_eq name other) (Some bytes) (file_in files other)
    (λ e. differs (sym ((bytes_eq-Decides name other).0 e)))

-- what the first files hold, and one more file
pub file_in_more : (files : List (String Global × Vec ℕ Global)) (i : ℕ) (file : String Global × Vec ℕ Global) (name : List ℕ) → i < length files → file ≡ get_or files i file → file_in (plain_files (take (i + 1) files)) name ≡ (if bytes_eq (string_bytes file.0) name then Some file.1.items else file_in (plain_files (take i files)) name)
file_in_more files i file name within is =
    rw (take_more files i file within, ← is, map-append) (file_in-append (plain_files (take i files)) (string_bytes file.0, file.1.items) name)
