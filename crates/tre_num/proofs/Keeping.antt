-- Pieces that are read from the front and kept at the back.
use Rattle.std.proofs.Common.{◌≡◌, ℕ, List, [], ◌∷◌, ◌++◌, Result, Ok, Err, OnOk, drop, append_assoc, append-nil, sym, ap, ◌∙◌}
use Rattle.tre_num.specs.Kept.{IsInFirst, joined, left_of}

-- ---- one more piece

-- what follows where a call went well
pub on-ok : {T E : Type 0} (result : Result T E) (P Q : Type 0) → (P → Q) → OnOk result P
    → OnOk result Q
on-ok (Ok x) P Q then p = then p
on-ok (Err e) P Q then p = tt

joined-push : (pieces : List (List ℕ)) (piece : List ℕ)
    → joined (pieces ++ piece ∷ []) ≡ joined pieces ++ piece
joined-push [] piece = append-nil piece
joined-push (first ∷ pieces) piece =
    ap (λ rest. first ++ rest) (joined-push pieces piece)
    ∙ sym (append_assoc first (joined pieces) piece)

pub left-push : (place : ℕ) (pieces : List (List ℕ)) (piece : List ℕ) → IsInFirst place pieces
    → left_of place (pieces ++ piece ∷ []) ≡ left_of place pieces ++ piece
left-push place [] piece in_first =
    ap (λ n. drop n piece ++ []) in_first ∙ append-nil piece
left-push place (first ∷ pieces) piece in_first =
    ap (λ rest. drop place first ++ rest) (joined-push pieces piece)
    ∙ sym (append_assoc (drop place first) (joined pieces) piece)
