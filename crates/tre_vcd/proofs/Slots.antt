-- What tables tell of identifiers by their first bytes.
use Rattle.std.proofs.Common.{◌≡◌, ◌≢◌, ◌↔◌, ℕ, ◌*◌, ◌%◌, ◌^◌, ◌<◌, ◌≤◌, List, length, get_or, set, replicate, Option, None, Some, inl, inr, sym, ap, ◌∙◌, arith, w64, if◌then◌else◌, rules}
use Rattle.std.specs.Prelude.{nat_lt}
use Rattle.std.specs.Int.{bit_at}
use Rattle.std.specs.Int.Bits.{bit_or, bit_and}
use Rattle.std.specs.Option.{option_map}
use Rattle.std.proofs.lemmas.Bool.{cases_eq, cases_lt}
use Rattle.std.proofs.lemmas.List.{get_or-replicate, get_or_past, get_or-set_same, get_or-set_other, length-replicate}
use Rattle.std.proofs.lemmas.Nat.Bits.{bit_at_set_same, bit_at_set_other, bit_at_and, bit_at-lt, bit_at-zero}
use Rattle.tre_vcd.specs.Brief.{first_slot, second_slot, TellsSlots, IsBriefOf, and_told}
use Rattle.tre_vcd.specs.Kept.{AreHaving, identifier_at}
use Rattle.tre_vcd.specs.declared.brief.Brief.{Brief}
use Rattle.tre_vcd.specs.declared.variable.Variable.{Variable}
use Rattle.tre_vcd.proofs.Valuing.{at-past}

abbrev pub clear : ℕ → List ℕ
clear count = replicate count 0

zeros : (count slot : ℕ) → get_or (clear count) slot 0 ≡ 0
zeros count slot = search (rules, cases_lt, get_or-replicate, get_or_past, length-replicate)

-- where there is no identifier
pub tells-none : (slot_of : List ℕ → ℕ) (count : ℕ)
    → TellsSlots slot_of (λ k. None) (clear count)
tells-none slot_of count = search (rules, zeros, bit_at-zero)

pub told-here : (identified : ℕ → Option (List ℕ)) (number : ℕ) (identifier : List ℕ) (k : ℕ)
    → k ≡ number → and_told identified number identifier k ≡ Some identifier
told-here identified number identifier k same = search rules

pub told-other : (identified : ℕ → Option (List ℕ)) (number : ℕ) (identifier : List ℕ) (k : ℕ)
    → k ≢ number → and_told identified number identifier k ≡ identified k
told-other identified number identifier k other = search rules

-- The masks once a number is added to a slot.
module _ (slot_of : List ℕ → ℕ) (identified : ℕ → Option (List ℕ)) (masks : List ℕ)
    (identifier : List ℕ) (place number : ℕ) (within : place < length masks)
    (small : number < 64) (is : place ≡ slot_of identifier)
    (absent : identified number ≡ None) where
  abbrev pub now : List ℕ
  now = set masks place (bit_or (get_or masks place 0) (1 * 2 ^ number % 2 ^ 64))

  others-stay : (slot k : ℕ) → k ≢ number
      → bit_at (get_or now slot 0) k ≡ bit_at (get_or masks slot 0) k
  others-stay slot k other = elim (cases_eq slot place) [
    | inl same ↦
        ap (λ i. bit_at (get_or now i 0) k) same
        ∙ ap (λ n. bit_at n k) (get_or-set_same masks place _ 0 within)
        ∙ bit_at_set_other w64 (get_or masks place 0) number small k other
        ∙ ap (λ i. bit_at (get_or masks i 0) k) (sym same)
    | inr apart ↦ ap (λ n. bit_at n k) (get_or-set_other masks place slot _ 0 apart)
  ]

  here-set : bit_at (get_or now place 0) number ≡ 1
  here-set =
      ap (λ n. bit_at n number) (get_or-set_same masks place _ 0 within)
      ∙ bit_at_set_same w64 (get_or masks place 0) number small

  own-slot : TellsSlots slot_of identified masks → (slot : ℕ)
      → (bit_at (get_or now slot 0) number ≡ 1) ↔ (Some (slot_of identifier) ≡ Some slot)
  own-slot tells slot = search (rules, cases_eq, here-set, get_or-set_other, tells.each)

  pub tells-added : TellsSlots slot_of identified masks
      → TellsSlots slot_of (and_told identified number identifier) now
  tells-added tells = record {
    each = λ slot k. elim (cases_eq k number) [
      | inl same ↦
          let told = told-here identified number identifier k same in
          let own = own-slot tells slot in (
            λ set. ap (option_map slot_of) told
                ∙ own.0 (ap (bit_at (get_or now slot 0)) (sym same) ∙ set),
            λ some. ap (bit_at (get_or now slot 0)) same
                ∙ own.1 (sym (ap (option_map slot_of) told) ∙ some),
          )
      | inr other ↦
          let told = told-other identified number identifier k other in
          let stays = others-stay slot k other in (
            λ set. ap (option_map slot_of) told ∙ (tells.each slot k).0 (sym stays ∙ set),
            λ some. stays ∙ (tells.each slot k).1 (sym (ap (option_map slot_of) told) ∙ some),
          )
    ];
  }

-- ---- one number after the other

-- those of the first numbers
abbrev pub of_first : ℕ → (ℕ → Option (List ℕ)) → ℕ → Option (List ℕ)
of_first count identified k = if nat_lt k count then identified k else None

of-below : (count : ℕ) (identified : ℕ → Option (List ℕ)) (k : ℕ) → k < count
    → of_first count identified k ≡ identified k
of-below count identified k below = search rules

of-behind : (count : ℕ) (identified : ℕ → Option (List ℕ)) (k : ℕ) → count ≤ k
    → of_first count identified k ≡ None
of-behind count identified k behind = search rules

pub brief-begins : (identified : ℕ → Option (List ℕ)) (brief : Brief) → IsBriefOf (λ k. None) brief
    → IsBriefOf (of_first 0 identified) brief
brief-begins identified brief told = search rules

pub brief-same : (one other : ℕ → Option (List ℕ)) (brief : Brief)
    → ((k : ℕ) → one k ≡ other k) → IsBriefOf one brief → IsBriefOf other brief
brief-same one other brief same told = search rules

pub of-all : (count : ℕ) (variables : List Variable) → length variables ≤ count → (k : ℕ)
    → of_first count (identifier_at variables) k ≡ identifier_at variables k
of-all count variables few k = search (rules, cases_lt, of-below, identifier_at, of-behind, at-past)

-- ---- looking up

own-of : (o : Option (List ℕ)) (identifier : List ℕ)
    → option_map first_slot o ≡ Some (first_slot identifier)
    → option_map second_slot o ≡ Some (second_slot identifier) → second_slot identifier ≢ 0
    → o ≡ Some identifier
own-of None identifier first second some = absurd (cc (first))
own-of (Some own) identifier first second some = search rules

-- Where the bits of both slots of an identifier are.
module _ (variables : List Variable) (identifier firsts seconds : List ℕ)
    (first : TellsSlots first_slot (identifier_at variables) firsts)
    (second : TellsSlots second_slot (identifier_at variables) seconds) where
  abbrev pub begin : List ℕ → ℕ
  begin bytes = get_or firsts (first_slot bytes) 0

  set-first : (k : ℕ) → identifier_at variables k ≡ Some identifier
      → bit_at (begin identifier) k ≡ 1
  set-first k at = (first.each (first_slot identifier) k).1 (ap (option_map first_slot) at)

  pub having-both : second_slot identifier ≢ 0 → AreHaving variables identifier
      (bit_and (begin identifier) (get_or seconds (second_slot identifier) 0))
  having-both some =
      let other = get_or seconds (second_slot identifier) 0 in
      record {
        sound = λ k set.
            let both = bit_at_and (begin identifier) other k in
            own-of (identifier_at variables k) identifier
            ((first.each (first_slot identifier) k).0
            (omega (arith, set, both, bit_at-lt (begin identifier) k, bit_at-lt other k)))
            ((second.each (second_slot identifier) k).0
            (omega (arith, set, both, bit_at-lt (begin identifier) k, bit_at-lt other k))) some;
        whole = λ k at.
            let one = set-first k at in
            let two : bit_at other k ≡ 1 =
            (second.each (second_slot identifier) k).1 (ap (option_map second_slot) at) in
            omega (arith, one, two, bit_at_and (begin identifier) other k);
      }
