-- The files of a host in memory.
use Rattle.std.proofs.Common.{◌≡◌, ℕ, List, [], ◌∷◌, map, ap, sym, ◌∙◌, refl}
use Rattle.std.specs.Prelude.{Bool, true, false, cond, if◌then◌else◌, nat_eq, Option, Some, is_some, Vec, String, string_bytes}
use Rattle.std.specs.Option.{unwrap_or}
use Rattle.std.specs.Ordering.{nat_cmp, eq_by_cmp}
use Rattle.std.specs.Cmp.Lexicographic.{slice_cmp, pointwise, texts_ties, nat_list_cmp_total}
use Rattle.std.specs.Cmp.{eq_by_cmp_equiv}
use Rattle.std.specs.FinMap.{find, get-from_entries}
use Rattle.std.specs.declared.alloc.Global.{Global}
use Rattle.sp_host.specs.Told.{file_of, has_file}
use Rattle.sp_host.specs.Memory.{files_of, file_named, is_named}

one_of : (b : Bool) (first rest : List ℕ) (found : Option (List ℕ)) → unwrap_or found [] ≡ rest → unwrap_or (cond b (Some first) found) [] ≡ (if b then first else rest)
one_of true first rest found is = refl
one_of false first rest found is = is

-- names are compared byte by byte
same_name : (a b : List ℕ) → eq_by_cmp (slice_cmp nat_cmp) b a ≡ pointwise nat_eq a b
same_name a b = (eq_by_cmp_equiv nat_list_cmp_total).symm b a ∙ sym (texts_ties a b)

found_is : (files : List (String Global × Vec ℕ Global)) (name : List ℕ) → unwrap_or (find (slice_cmp nat_cmp) name (map (λ file. (string_bytes file.0, file.1.items)) files)) [] ≡ file_named files name
found_is [] name = refl
found_is (file ∷ files) name =
    let rest = find (slice_cmp nat_cmp) name (map (λ file. (string_bytes file.0, file.1.items)) files) in
    ap (λ b. unwrap_or (cond b (Some file.1.items) rest) []) (same_name (string_bytes file.0) name)
    ∙ one_of (pointwise nat_eq (string_bytes file.0) name) file.1.items (file_named files name) rest (found_is files name)

-- it is the file that the map has
pub named : (files : List (String Global × Vec ℕ Global)) (name : List ℕ) → file_of (files_of files) name ≡ file_named files name
named files name = ap (λ found. unwrap_or found []) (get-from_entries nat_list_cmp_total _ name) ∙ found_is files name

-- and a name is in that map where a file has it
one_there : (b rest : Bool) (first : List ℕ) (found : Option (List ℕ)) → is_some found ≡ rest → is_some (cond b (Some first) found) ≡ (if b then true else rest)
one_there true rest first found is = refl
one_there false rest first found is = is

there_is : (files : List (String Global × Vec ℕ Global)) (name : List ℕ) → is_some (find (slice_cmp nat_cmp) name (map (λ file. (string_bytes file.0, file.1.items)) files)) ≡ is_named files name
there_is [] name = refl
there_is (file ∷ files) name =
    let rest = find (slice_cmp nat_cmp) name (map (λ file. (string_bytes file.0, file.1.items)) files) in
    ap (λ b. is_some (cond b (Some file.1.items) rest)) (same_name (string_bytes file.0) name)
    ∙ one_there (pointwise nat_eq (string_bytes file.0) name) (is_named files name) file.1.items rest (there_is files name)

pub there : (files : List (String Global × Vec ℕ Global)) (name : List ℕ) → has_file (files_of files) name ≡ is_named files name
there files name = ap (λ found. is_some found) (get-from_entries nat_list_cmp_total _ name) ∙ there_is files name
