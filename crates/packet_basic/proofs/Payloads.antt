-- Whether decoding finds a payload, in any room. Assumes nothing.
use Prim.Native.Nat.{ℕ}
use mathlib.Core.Path.{◌≡◌, refl, sym}
use mathlib.Core.Bool.{true, false, false≢true}
use mathlib.Core.List.{List, [], ◌∷◌}
use mathlib.Core.Option.{Option, none, some}
use Rattle.std.specs.Prelude.{Err, Result, ℕ, Ok, is_ok}
use Rattle.std.specs.Result.{result_unwrap_or}
use Rattle.kiss_layout.specs.declared.KissError.{KissError}
use Rattle.kiss_layout.specs.Scan.{stretch, after_fends}
use Rattle.kiss_layout.specs.Read.{content_in, payload_at, decoded}
use Rattle.packets.specs.Queue.{malformed, basic}
use Rattle.packets.specs.Inside.{count_of}

pub no_payload : (x : Result ℕ KissError) (d : List ℕ) → is_ok x ≡ false → basic x d ≡ malformed
unfolding basic
no_payload (Ok n) d f = absurd (false≢true (sym f))
no_payload (Err e) d f = refl

pub some_payload : (x : Result ℕ KissError) → is_ok x ≡ true → x ≡ Ok (count_of x)
some_payload (Ok n) f = refl
some_payload (Err e) f = absurd (false≢true f)

-- how many bytes: none where there is no payload
pub count_is : (x : Result ℕ KissError) → result_unwrap_or x 0 ≡ count_of x
count_is (Ok n) = refl
count_is (Err e) = refl

-- whether there is a payload does not depend on the room
pub any_room : (f d e : List ℕ) → is_ok (decoded f d).0 ≡ is_ok (decoded f e).0
unfolding decoded
any_room f d e = by (after_fends f)
  where
    content : (o : Option (List ℕ)) → is_ok (content_in o d).0 ≡ is_ok (content_in o e).0
    content none = refl
    content (some c) = refl

    by : (l : List ℕ) → is_ok (payload_at l d).0 ≡ is_ok (payload_at l e).0
    by [] = refl
    by (h ∷ s) = content (stretch s)
