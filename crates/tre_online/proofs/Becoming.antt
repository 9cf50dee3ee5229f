-- Sessions of a watch that become new ones, up to a place.
use Rattle.std.proofs.Common.{◌≡◌, ℕ, suc, zero, ◌+◌, ◌<◌, ◌≤◌, length, get_or, set, take, drop, List, [], ◌∷◌, ◌++◌, refl, sym, subst, inl, inr, arith, ◌∙◌}
use Rattle.std.specs.List.{AllZip}
use Rattle.std.proofs.lemmas.List.{drop-set-lt, drop_more, length-set, take_all, take_more, take_more_set}
use Rattle.tre_trace.specs.declared.fault.PushFault.{PushFault}
use Rattle.tre_trace.specs.declared.segment.Segment.{Segment}
use Rattle.tre_online.specs.Giving.{Become, IsRefusedBy, IsRefusedByOne}
use Rattle.tre_online.specs.declared.session.Session.{Session}

pub zip_more : {A B : Type 0} (R : A → B → Type 0) (xs : List A) (ys : List B) (x : A) (y : B)
    → AllZip R xs ys → R x y → AllZip R (xs ++ x ∷ []) (ys ++ y ∷ [])
zip_more R [] [] x y all is = (is, tt)
zip_more R (a ∷ xs) (b ∷ ys) x y all is = (all.0, zip_more R xs ys x y all.1 is)
zip_more R [] (b ∷ ys) x y all is = absurd all
zip_more R (a ∷ xs) [] x y all is = absurd all

module _ {X : Type 0} (R : Session → X → Session → Type 0) where
  become_more : (olds : List Session) (given : List X) (news : List Session) (old : Session) (x : X)
      (new : Session) → Become R olds given news → R old x new
      → Become R (olds ++ old ∷ []) (given ++ x ∷ []) (news ++ new ∷ [])
  become_more [] [] [] old x new become is = (is, tt)
  become_more (o ∷ olds) (g ∷ given) (n ∷ news) old x new become is =
      (become.0, become_more olds given news old x new become.1 is)
  become_more olds given news old x new become is = absurd become

  -- Those up to the place have become new ones, and the others are as they were.
  pub record HaveBecome (olds : List Session) (given : List X) (place : ℕ) (now : List Session)
      : Type 0 where
    pub count : length now ≡ length olds
    pub done : Become R (take place olds) (take place given) (take place now)
    pub left : drop place now ≡ drop place olds

  pub HaveBecome-start : (olds : List Session) (given : List X) → HaveBecome olds given 0 olds
  HaveBecome-start olds given = record { count = refl; done = tt; left = refl }

  -- What is at the place is what was there.
  still : (olds : List Session) (given : List X) (place : ℕ) (now : List Session) (e : Session)
      → HaveBecome olds given place now → place < length olds
      → (get_or olds place e ≡ get_or now place e)
      × (drop (place + 1) now ≡ drop (place + 1) olds)
  still olds given place now e have below =
      let within : place < length now = omega (arith, below, have.count) in
      let now_split = drop_more now place e within in
      let split = drop_more olds place e below in
      let left = have.left in
      let first : get_or olds place e ≡ get_or now place e = cc in
      let same : drop (place + 1) now ≡ drop (place + 1) olds = cc in
      (first, same)

  pub HaveBecome-next : (olds : List Session) (given : List X) (place : ℕ) (now : List Session)
      (d : X) (e new : Session) → HaveBecome olds given place now → place < length olds
      → place < length given → R (get_or now place e) (get_or given place d) new
      → HaveBecome olds given (place + 1) (set now place new)
  HaveBecome-next olds given place now d e new have below some is =
      let within : place < length now = omega (arith, below, have.count) in
      let same = still olds given place now e have below in
      record {
        count = length-set now place new ∙ have.count;
        done = rw (
          take_more olds place e below,
          take_more given place d some,
          take_more_set now place new within,
          same.0,
        )
            (become_more (take place olds) (take place given) (take place now) (get_or now place e)
            (get_or given place d) new have.done is);
        left = drop-set-lt (place + 1) now place new (omega arith) ∙ same.1;
      }

  pub HaveBecome-end : (olds : List Session) (given : List X) (place : ℕ) (now : List Session)
      → HaveBecome olds given place now → length given ≡ length olds → length given ≤ place
      → Become R olds given now
  HaveBecome-end olds given place now have count past =
      let olds_all = take_all place olds (omega (arith, count, past)) in
      let given_all = take_all place given past in
      let now_all = take_all place now (omega (arith, count, past, have.count)) in
      subst (λ (list : List Session). Become R list given now) olds_all
      (subst (λ (list : List X). Become R (take place olds) list now) given_all
      (subst (λ (list : List Session). Become R (take place olds) (take place given) list) now_all
      have.done))

-- A refusal at a place is one by one of the sessions.
refused_at : (sessions : List Session) (segments : List Segment) (place : ℕ) (e : Session)
    (d : Segment) (fault : PushFault) → place < length sessions → place < length segments
    → IsRefusedBy (get_or sessions place e) (get_or segments place d) fault
    → IsRefusedByOne sessions segments fault
refused_at (first ∷ sessions) (begin ∷ segments) zero e d fault below some refused = inl refused
refused_at (first ∷ sessions) (begin ∷ segments) (suc place) e d fault below some refused =
    inr (refused_at sessions segments place e d fault (omega (arith, below)) (omega (arith, some))
    refused)
refused_at [] segments place e d fault below some refused = absurd (omega (arith, below))
refused_at (first ∷ sessions) [] place e d fault below some refused = absurd (omega (arith, some))

pub refused_here : {R : Session → Segment → Session → Type 0} (olds : List Session)
    (given : List Segment) (place : ℕ) (now : List Session) (d : Segment) (e : Session)
    (fault : PushFault) → HaveBecome R olds given place now → place < length olds
    → place < length given → IsRefusedBy (get_or now place e) (get_or given place d) fault
    → IsRefusedByOne olds given fault
refused_here {R = R} olds given place now d e fault have below some refused =
    refused_at olds given place e d fault below some
    (subst (λ (s : Session). IsRefusedBy s (get_or given place d) fault)
    (sym (still R olds given place now e have below).0) refused)
