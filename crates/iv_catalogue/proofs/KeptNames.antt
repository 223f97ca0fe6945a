-- Names that are the keys of a map.
use Rattle.std.proofs.Common.{◌≡◌, ℕ, Bool, false, List, [], ◌∷◌, ◌++◌, ◌∙◌, Option, Some, None, map, refl, sym, ap, is_some, string_bytes, String}
use Rattle.std.specs.List.{list_any}
use Rattle.std.specs.Map.{keys_of}
use Rattle.std.specs.HashMap.{get_by}
use Rattle.std.specs.String.{string_eq}
use Rattle.std.specs.Str.{bytes_eq}
use Rattle.std.proofs.lemmas.Map.Made.{is_some-lookup}
use Rattle.indexmap.specs.IndexMap.{IndexMap, keys, get, insert_entry}
use Rattle.indexmap.proofs.CallerLemmas.{insert_entry-new}
use Rattle.iv_catalogue.proofs.NamedLists.{any_map}

-- a key that passes is found if some mapped key passes
pub found_among : {K X S Y : Type 0} (f : K → Y) (p : Y → Bool) (m : IndexMap K X S) → is_some (get_by (λ k. p (f k)) m) ≡ list_any p (map f (keys m))
found_among f p m = is_some-lookup (λ k. p (f k)) m.entries ∙ any_map p f (keys m)

nothing : {A : Type 0} (o : Option A) → is_some o ≡ false → o ≡ None
nothing None h = refl
nothing (Some x) h = cc

-- a string whose text is not among those of the keys is no key
pub absent : {A X S : Type 0} (m : IndexMap (String A) X S) (k : String A) (name : List ℕ) → string_bytes k ≡ name
    → false ≡ list_any (bytes_eq name) (map string_bytes (keys m)) → get string_eq m k ≡ None
absent m k name e h = nothing _ (found_among string_bytes (bytes_eq (string_bytes k)) m ∙ ap (λ n. list_any (bytes_eq n) (map string_bytes (keys m))) e ∙ sym h)

keys_added : {K X Y : Type 0} (f : K → Y) (es : List (K × X)) (k : K) (v : X) → map f (keys_of (es ++ (k, v) ∷ [])) ≡ map f (keys_of es) ++ f k ∷ []
keys_added f [] k v = refl
keys_added f (e ∷ es) k v = ap (λ l. f e.0 ∷ l) (keys_added f es k v)

-- a new key comes last
pub added : {K X S Y : Type 0} (f : K → Y) (eq : K → K → Bool) (m n : IndexMap K X S) (k : K) (v : X) (name : Y)
    → n.entries ≡ insert_entry eq m.entries k v → get eq m k ≡ None → f k ≡ name → map f (keys n) ≡ map f (keys m) ++ name ∷ []
added f eq m n k v name e h b =
    ap (λ es. map f (keys_of es)) (e ∙ insert_entry-new eq m k v h) ∙ keys_added f m.entries k v ∙ ap (λ x. map f (keys m) ++ x ∷ []) b
