-- What a change at one source does to what is kept.
use Rattle.std.proofs.Common.{◌≡◌, ◌≤◌, ℕ, ◌+◌, Bool, true, false, cond, List, [], ◌∷◌, Option, None, Some, unwrap_or}
use Rattle.std.proofs.Common.{if◌then◌else◌, is_some, true≢false, refl, sym, ap, subst, ◌∙◌}
use Rattle.std.specs.Prelude.{IfSome, All, position, slice_get}
use Rattle.std.specs.Cmp.Lexicographic.{nat_list_eq_equiv}
use Rattle.std.specs.List.{IsDistinct}
use Rattle.std.specs.Map.{lookup, keys_of, values_of}
use Rattle.std.specs.Option.{option_map}
use Rattle.std.specs.Str.{bytes_eq}
use Rattle.std.proofs.Math.Nat.{add-zero}
use Rattle.std.proofs.lemmas.List.Elements.{All-nil, All-cons, All-head, All-tail}
use Rattle.std.proofs.lemmas.Map.Entries.{All-lookup}
use Rattle.std.proofs.lemmas.Map.Made.{lookup-map_values, lookup_key_same}
use Rattle.std.proofs.lemmas.Map.Views.{All-values_from_lookup}
use Rattle.std.proofs.lemmas.Option.{IfSome_then, slice_get-map, same_Some, none-some}
use Rattle.std.proofs.lemmas.Slice.Eq.{bytes_eq-Decides}
use Rattle.indexmap.specs.IndexMap.{IndexMap, IsUnique, Updates, keys, values, with_value_at}
use Rattle.indexmap.proofs.CallerLemmas.{keys-with_value_at, updates-with_value_at}
use Rattle.indexmap.proofs.MapLemmas.{Found-position}
use Rattle.pf_check.specs.Reading.{IsReadAs}
use Rattle.pf_store.specs.Sources.{holders, HeldOnceMore, HeldOnceLess, IsAllHeld}
use Rattle.pf_store.specs.Held.{Modules, kept_in, IsStoredAs, IsValid}
use Rattle.pf_store.specs.declared.store.StoredModule.{StoredModule}

-- how many hold what a look-up found
abbrev pub count : Option StoredModule → ℕ
count o = unwrap_or (option_map (λ h. h.holders) o) 0

pub holders_counted : (es : Modules) (q : List ℕ) → holders (kept_in es) q ≡ count (lookup (bytes_eq q) es)
holders_counted es q = ap (λ o. unwrap_or o 0) (lookup-map_values (λ (h : StoredModule). h.holders) (bytes_eq q) es)

pub same_source : (k q : List ℕ) → bytes_eq k q ≡ true → k ≡ q
same_source k q = (bytes_eq-Decides k q).0

-- one source is looked up as this then, and each other as before
abbrev pub Changes : Modules → Modules → List ℕ → Option StoredModule → Type 0
Changes es es' k w = (q : List ℕ) → lookup (bytes_eq q) es' ≡ cond (bytes_eq k q) w (lookup (bytes_eq q) es)

module _ (es es' : Modules) (k : List ℕ) (w : Option StoredModule) (changes : Changes es es' k w) where
  here : (q : List ℕ) → bytes_eq k q ≡ true → (holders (kept_in es') q ≡ count w)
      × (holders (kept_in es) q ≡ holders (kept_in es) k)
  here q e = (
    holders_counted es' q ∙ ap count (changes q ∙ ap (λ b. cond b w (lookup (bytes_eq q) es)) e),
    ap (holders (kept_in es)) (sym (same_source k q e)),
  )

  apart : (q : List ℕ) → bytes_eq k q ≡ false → holders (kept_in es') q ≡ holders (kept_in es) q
  apart q e =
      holders_counted es' q ∙ ap count (changes q ∙ ap (λ b. cond b w (lookup (bytes_eq q) es)) e)
      ∙ sym (holders_counted es q)

  pub more_after : count w ≡ holders (kept_in es) k + 1 → HeldOnceMore k (kept_in es) (kept_in es')
  more_after one q = by (bytes_eq k q) refl
    where
      by : (b : Bool) → bytes_eq k q ≡ b → holders (kept_in es') q ≡ holders (kept_in es) q + (if b then 1 else 0)
      by true e = (here q e).0 ∙ one ∙ ap (λ n. n + 1) (sym (here q e).1)
      by false e = apart q e ∙ sym (add-zero _)

  pub less_after : holders (kept_in es) k ≡ count w + 1 → HeldOnceLess k (kept_in es) (kept_in es')
  less_after one q = by (bytes_eq k q) refl
    where
      by : (b : Bool) → bytes_eq k q ≡ b → holders (kept_in es) q ≡ holders (kept_in es') q + (if b then 1 else 0)
      by true e = (here q e).1 ∙ one ∙ ap (λ n. n + 1) (sym (here q e).0)
      by false e = sym (apart q e) ∙ sym (add-zero _)

-- what is known of a source's module and of how many hold it
abbrev pub IsHeldAs : List ℕ → StoredModule → Type 0
IsHeldAs source h = IsStoredAs source h × (1 ≤ h.holders)

through_map : (o : Option StoredModule) → IfSome (option_map (λ h. h.holders) o) (λ n. 1 ≤ n)
    → IfSome o (λ h. 1 ≤ h.holders)
through_map None p = tt
through_map (Some h) p = p

both : (o : Option StoredModule) (P Q : StoredModule → Type 0) → IfSome o P → IfSome o Q → IfSome o (λ h. P h × Q h)
both None P Q p q = tt
both (Some h) P Q p q = (p, q)

-- what is kept under a source is held
pub held_as : (es : Modules) → IsValid es → (q : List ℕ) → IfSome (lookup (bytes_eq q) es) (IsHeldAs q)
held_as es kept q =
    both (lookup (bytes_eq q) es) (IsStoredAs q) (λ h. 1 ≤ h.holders) (kept.0 q)
    (through_map (lookup (bytes_eq q) es)
    (subst (λ o. IfSome o (λ n. 1 ≤ n)) (lookup-map_values (λ (h : StoredModule). h.holders) (bytes_eq q) es)
    (All-lookup (λ n. 1 ≤ n) (bytes_eq q) (kept_in es) kept.1)))

all_held_by_values : (es : Modules) → All (λ h. 1 ≤ h.holders) (values_of es) → IsAllHeld (kept_in es)
all_held_by_values [] p = All-nil _
all_held_by_values (e ∷ es) p =
    All-cons (λ x. 1 ≤ x.1) (e.0, e.1.holders) (kept_in es)
    (All-head (λ (h : StoredModule). 1 ≤ h.holders) e.1 (values_of es) p)
    (all_held_by_values es (All-tail (λ (h : StoredModule). 1 ≤ h.holders) e.1 (values_of es) p))

-- what holds of each source's module is true of all that is kept
kept_by_lookups : (es : Modules) → IsDistinct bytes_eq (keys_of es)
    → ((q : List ℕ) → IfSome (lookup (bytes_eq q) es) (IsHeldAs q)) → IsValid es
kept_by_lookups es distinct held = (
  λ q. IfSome_then (lookup (bytes_eq q) es) (held q) (λ h p. p.0),
  all_held_by_values es
      (All-values_from_lookup nat_list_eq_equiv (λ (h : StoredModule). 1 ≤ h.holders) es distinct
      (λ q. IfSome_then (lookup (bytes_eq q) es) (held q) (λ h p. p.1))),
)

-- after a change at a source all is kept still, where what is there then is held
pub kept_after : (es es' : Modules) (k : List ℕ) (w : Option StoredModule) → IsValid es
    → IsDistinct bytes_eq (keys_of es') → Changes es es' k w
    → IfSome w (IsHeldAs k) → IsValid es'
kept_after es es' k w kept distinct changes new =
    kept_by_lookups es' distinct (λ q. subst (λ o. IfSome o (IsHeldAs q)) (sym (changes q)) (by q (bytes_eq k q) refl))
  where
    by : (q : List ℕ) (b : Bool) → bytes_eq k q ≡ b → IfSome (cond b w (lookup (bytes_eq q) es)) (IsHeldAs q)
    by q true e = subst (λ s. IfSome w (IsHeldAs s)) (same_source k q e) new
    by q false e = held_as es kept q

-- what is not found nobody holds
pub nobody_holds : (es : Modules) (q : List ℕ) → is_some (lookup (bytes_eq q) es) ≡ false → holders (kept_in es) q ≡ 0
nobody_holds es q e = holders_counted es q ∙ by (lookup (bytes_eq q) es) e
  where
    by : (o : Option StoredModule) → is_some o ≡ false → count o ≡ 0
    by None e' = refl
    by (Some h) e' = absurd (true≢false e')

-- ---- indices

-- what is held at the index of a source is held under that source
pub entry_at : (es : Modules) (q : List ℕ) (i : ℕ) (h : StoredModule) → position (bytes_eq q) (keys_of es) ≡ Some i
    → slice_get (values_of es) i ≡ Some h
    → slice_get es i ≡ Some (q, h)
entry_at es q i h offset value = by (slice_get es i) refl
  where
    by : (o : Option (List ℕ × StoredModule)) → slice_get es i ≡ o → slice_get es i ≡ Some (q, h)
    by None e =
        absurd (none-some h (sym (slice_get-map (λ (x : List ℕ × StoredModule). x.1) es i
        ∙ ap (option_map (λ x. x.1)) e) ∙ value))
    by (Some x) e =
        let v : x.1 ≡ h = same_Some x.1 h (sym (slice_get-map (λ (y : List ℕ × StoredModule). y.1) es i
        ∙ ap (option_map (λ y. y.1)) e) ∙ value) in
        let k : q ≡ x.0 =
        lookup_key_same bytes_eq-Decides q es x.0
        ((Found-position (bytes_eq q) es i offset).key ∙ slice_get-map (λ (y : List ℕ × StoredModule). y.0) es i
        ∙ ap (option_map (λ y. y.0)) e) in
        e ∙ (λ j. Some (sym k j, v j))

module _ {S : Type 0} (m : IndexMap (List ℕ) StoredModule S) (q : List ℕ) (i : ℕ) (h w : StoredModule)
    (kept : IsValid m.entries) (unique : IsUnique bytes_eq m)
    (offset : position (bytes_eq q) (keys m) ≡ Some i) (value : slice_get (values m) i ≡ Some h)
    (found : lookup (bytes_eq q) m.entries ≡ Some h) where
  pub counted : holders (kept_in m.entries) q ≡ h.holders
  counted = holders_counted m.entries q ∙ ap count found

  pub known : IsHeldAs q h
  known = subst (λ o. IfSome o (IsHeldAs q)) found (held_as m.entries kept q)

  written : Changes m.entries (with_value_at m i w).entries q (Some w)
  written = (updates-with_value_at m i w nat_list_eq_equiv unique q h (entry_at m.entries q i h offset value)).0

  -- after a write of how many hold what is found, all is kept still
  pub written_kept : w.module ≡ h.module → 1 ≤ w.holders → IsValid (with_value_at m i w).entries
  written_kept same one =
      kept_after m.entries (with_value_at m i w).entries q (Some w) kept
      (subst (IsDistinct bytes_eq) (sym (keys-with_value_at m i w)) unique) written
      (subst (λ s. (s.source ≡ q) × IsReadAs q s) (sym same) known.0, one)

  pub written_more : w.holders ≡ h.holders + 1
      → HeldOnceMore q (kept_in m.entries) (kept_in (with_value_at m i w).entries)
  written_more one = more_after m.entries (with_value_at m i w).entries q (Some w) written
      (one ∙ ap (λ n. n + 1) (sym counted))

  pub written_less : h.holders ≡ w.holders + 1
      → HeldOnceLess q (kept_in m.entries) (kept_in (with_value_at m i w).entries)
  written_less one = less_after m.entries (with_value_at m i w).entries q (Some w) written (counted ∙ one)

  -- what is found is taken out
  module _ (n : IndexMap (List ℕ) StoredModule S) (r : Option (List ℕ × StoredModule))
      (entry : r ≡ slice_get m.entries i)
      (updates : IfSome r (λ p. Updates bytes_eq m n p.0 None)) where
    gone : Changes m.entries n.entries q None
    gone = (subst (λ o. IfSome o (λ p. Updates bytes_eq m n p.0 None))
        (entry ∙ entry_at m.entries q i h offset value) updates).0

    pub gone_kept : IsUnique bytes_eq n → IsValid n.entries
    gone_kept distinct = kept_after m.entries n.entries q None kept distinct gone tt

    pub gone_less : h.holders ≡ 1 → HeldOnceLess q (kept_in m.entries) (kept_in n.entries)
    gone_less one = less_after m.entries n.entries q None gone (counted ∙ one)
