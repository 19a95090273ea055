-- What is seen of a vector with reserved room.
use Rattle.std.specs.Prelude.{ℕ, List, refl}
use Rattle.std.specs.Coded.{Coded, code_by, coded×, coded_list, coded_ℕ}
use denote.RawPtr.{Ptr, coded_ptr}

-- the items, how many there may be, and where their memory lies: another block would be another value
pub record Room (T : Type 0) : Type 0 where
  pub items : List T
  pub limit : ℕ
  pub block : Ptr

module _ {T : Type 0} where
  -- the same room, with these items in it
  abbrev pub holding : Room T → List T → Room T
  holding r xs = record r { items = xs }

  abbrev pub room_code : Coded T → Coded (Room T)
  room_code c =
      code_by (List T × (ℕ × Ptr)) (coded× (coded_list c) (coded× coded_ℕ coded_ptr)) (λ r. (r.items, (r.limit, r.block)))
      (λ p. record { items = p.0; limit = p.1.0; block = p.1.1 }) (λ _. refl)
