use Rattle.std.proofs.Common.{◌≡◌, ◌<◌, ◌++◌, ◌∷◌, [], List, ℕ, None, Some, length, map, refl, sym, subst, ap, ◌∙◌, arith, rules}
use Rattle.std.specs.String.{string_bytes}
use Rattle.std.proofs.lemmas.List.{length-map}
use Rattle.std.proofs.lemmas.Result.{err_from_is_err_and}
use Rattle.tre_state.specs.Names.{place_of, IsNameList}
use Rattle.tre_state.specs.Sieve.{AreSifted, MayBe}
use Rattle.tre_state.specs.declared.names.TheConstants.{NAMES_MAX}
use Rattle.tre_state.proofs.Places.{IsNameList-push, place_of-push}
use Rattle.tre_state.proofs.Sieving.{sifted-push}
use Rattle.tre_state.proofs.names.Names.number.Goals as goal

pub invariant_of-self-2 : goal.invariant_of-self-2
invariant_of-self-2 c =
    let old = map string_bytes c.self.inside.names.keys in
    let now = map string_bytes c.insert_last.new.names.keys in
    let place = c.in_ok-place.place in
    let absent : place_of old c.args.name.now ≡ None = search rules in
    let room : length old < NAMES_MAX =
    omega (arith, length-map c.self.inside.names.keys string_bytes, c.self.invariant.0.few) in
    let bytes = c.as_bytes.ensures.value in
    let names : now ≡ old ++ c.args.name.now ∷ [] = c.in_ok-place.ensures.ok in (
      subst IsNameList (sym names)
          (IsNameList-push old c.args.name.now c.self.invariant.0 c.requires.is_name room absent),
      subst (λ (all : List (List ℕ)). AreSifted all c.add.new.self) (sym names)
          (sifted-push old c.args.name.now c.self.inside.sieve c.add.new.self place
          c.in_ok-place.ensures.place c.self.invariant.1
          (subst (λ (text : List ℕ). MayBe c.add.new.self text place) bytes c.add.ensures.added)
          c.add.ensures.kept),
    )

pub returns-clause-number : goal.returns-clause-number
returns-clause-number c =
    let old = map string_bytes c.self.inside.names.keys in
    let absent : place_of old c.args.name.now ≡ None = search rules in
    ap (λ names. place_of names c.args.name.now) c.in_ok-place.ensures.ok
    ∙ place_of-push old c.args.name.now absent
    ∙ ap Some (sym c.in_ok-place.ensures.place)

pub returns-clause-list : goal.returns-clause-list
returns-clause-list c = (invariant_of-self-2 c).0

-- The list is full, and the name isn't in it.
pub returns-then-len-eq-NAMES_MAX-clause-too_many :
    goal.returns-then-len-eq-NAMES_MAX-clause-too_many
returns-then-len-eq-NAMES_MAX-clause-too_many c =
    let full : length c.args.self.now ≡ NAMES_MAX =
    ap length (sym c.self.view_is) ∙ length-map c.self.inside.names.keys string_bytes
    ∙ sym c.len.ensures.len ∙ c.if-len-eq-NAMES_MAX.true in
    ((λ _. (full, sym c.find.ensures ∙ c.in_default.is)), λ _. refl)

pub insert_last-requires-clause-room : goal.insert_last-requires-clause-room
insert_last-requires-clause-room c =
    omega (
      arith,
      length-map c.self.inside.names.keys string_bytes,
      c.self.invariant.0.few,
      c.len.ensures.len,
      c.if-len-eq-NAMES_MAX.false,
    )

pub returns-in_err-place-clause-too_many : goal.returns-in_err-place-clause-too_many
returns-in_err-place-clause-too_many c =
    let few = length-map c.self.inside.names.keys string_bytes in
    let known = ap length c.self.view_is in
    let p = err_from_is_err_and c.from_residual.result c.from_residual.ensures.1 in
    let memory = p.1 in
    let given = p.2 in (
      (λ full. absurd cc),
      (λ full. absurd (omega (
        arith,
        few,
        known,
        full.0,
        c.len.ensures.len,
        c.if-len-eq-NAMES_MAX.false,
      ))),
    )

pub add-requires : goal.add-requires
add-requires c =
    omega (
      arith,
      length-map c.self.inside.names.keys string_bytes,
      c.self.invariant.0.few,
      c.len.ensures.len,
      c.if-len-eq-NAMES_MAX.false,
      c.in_ok-place.ensures.place,
    )

pub returns-clause-too_many : goal.returns-clause-too_many
returns-clause-too_many c =
    let few = length-map c.self.inside.names.keys string_bytes in
    let known = ap length c.self.view_is in (
      (λ full. absurd cc),
      (λ full. absurd (omega (
        arith,
        few,
        known,
        full.0,
        c.len.ensures.len,
        c.if-len-eq-NAMES_MAX.false,
      ))),
    )
