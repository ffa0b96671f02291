-- The objects of a text are those of its pieces.
use Rattle.std.proofs.Common.{◌≡◌, ℕ, Bool, true, false, List, [], ◌∷◌, ◌++◌, refl, ap, sym, ◌∙◌, append_assoc}
use Rattle.std.specs.Prelude.{◌==◌, if◌then◌else◌}
use Rattle.pf_json.specs.Lines.{HeldText, after_line, held_after, objects_from, with_byte}
use Rattle.pf_json.specs.Objects.{facts_at, object_line}

-- after a line end, or after another byte
piece : (c : Bool) (line x xs u us back : List ℕ) (h k : HeldText) → x ≡ xs ++ objects_from h back
    → u ≡ us ++ objects_from k back
    → (if c then line ++ x else u) ≡ (if c then line ++ xs else us) ++ objects_from (if c then h else k) back
piece true line x xs u us back h k e d = ap (λ (t : List ℕ). line ++ t) e
    ∙ sym (append_assoc line xs (objects_from h back))
piece false line x xs u us back h k e d = d

pub pieces : (h : HeldText) (front back : List ℕ)
    → objects_from h (front ++ back) ≡ objects_from h front ++ objects_from (held_after h front) back
pieces h [] back = refl
pieces h (b ∷ bs) back =
    piece (b == 10) (object_line (facts_at h.place h.line)) _ _ _ _ back (held_after (after_line h) bs)
    (held_after (with_byte h b) bs)
    (pieces (after_line h) bs back) (pieces (with_byte h b) bs back)

held_piece : (c : Bool) (x y u v : HeldText) (back : List ℕ) → x ≡ held_after y back → u ≡ held_after v back
    → (if c then x else u) ≡ held_after (if c then y else v) back
held_piece true x y u v back e d = e
held_piece false x y u v back e d = d

-- and so is what is held after them
pub held_pieces : (h : HeldText) (front back : List ℕ)
    → held_after h (front ++ back) ≡ held_after (held_after h front) back
held_pieces h [] back = refl
held_pieces h (b ∷ bs) back =
    held_piece (b == 10) _ _ _ _ back (held_pieces (after_line h) bs back) (held_pieces (with_byte h b) bs back)
