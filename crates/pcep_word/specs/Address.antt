-- IPv4 addresses as text: four numbers from 0 to 255 joined by dots.
use Rattle.std.specs.Prelude.{ℕ, ◌+◌, ◌-◌, ◌*◌, ◌==◌, ◌&&◌, nat_le, Bool, List, [], ◌∷◌, ◌++◌, Option, Some, None, option_map, option_and_then, if◌then◌else◌}
use Rattle.std.specs.Fmt.{decimal}
use Rattle.byteorder.specs.Endian.{big_bytes, big_number}

-- some numbers in decimal, joined by dots
abbrev pub dotted : List ℕ → List ℕ
dotted [] = []
dotted (n ∷ []) = decimal n
dotted (n ∷ m ∷ numbers) = decimal n ++ (46 ∷ dotted (m ∷ numbers))

-- the text of an address: its four bytes, the highest first
unfoldable pub text_of : ℕ → List ℕ
text_of address = dotted (big_bytes 4 address)

-- '0' to '9', and '1' to '9'
abbrev pub is_digit : ℕ → Bool
is_digit byte = nat_le 48 byte && nat_le byte 57

abbrev pub is_leading : ℕ → Bool
is_leading byte = nat_le 49 byte && nat_le byte 57

-- one number of an address, without leading zeros (dec-octet of RFC 3986 section 3.2.2)
unfoldable pub octet_of : List ℕ → Option ℕ
octet_of (a ∷ []) = if is_digit a then Some (a - 48) else None
octet_of (a ∷ b ∷ []) = if is_leading a && is_digit b then Some ((a - 48) * 10 + (b - 48)) else None
octet_of (a ∷ b ∷ c ∷ []) =
    if is_leading a && is_digit b && is_digit c && nat_le ((a - 48) * 100 + (b - 48) * 10 + (c - 48)) 255 then Some ((a - 48) * 100 + (b - 48) * 10 + (c - 48)) else None
octet_of _ = None

-- the text before the first dot, and the text after it
unfoldable pub cut : List ℕ → Option (List ℕ × List ℕ)
cut [] = None
cut (byte ∷ text) = if byte == 46 then Some ([], text) else option_map (λ (p : List ℕ × List ℕ). (byte ∷ p.0, p.1)) (cut text)

infixl 10 ◌>>=◌
abbrev pub ◌>>=◌ : {A B : Type 0} → Option A → (A → Option B) → Option B
o >>= f = option_and_then f o

-- The address that a text writes. The clauses of Ipv4::parse say that it reads what text_of writes, and nothing else.
unfoldable pub address_of : List ℕ → Option ℕ
address_of text = do
  first ← cut text
  second ← cut first.1
  third ← cut second.1
  a ← octet_of first.0
  b ← octet_of second.0
  c ← octet_of third.0
  d ← octet_of third.1
  Some (big_number 4 (a ∷ b ∷ c ∷ d ∷ []))
