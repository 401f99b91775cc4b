-- The lists, costs, order and levels of the next row: what the calls ask for, and what they leave.
use Prim.Native.Nat.{ℕ, ◌+◌, ◌-◌, ◌*◌, ◌≤◌, ◌<◌}
use mathlib.Core.Path.{◌≡◌, refl, sym, ◌∙◌}
use mathlib.Core.List.{List}
use native.Mathlib.Nat.{suc-mul, mul-le-mul_right}
use native.Mathlib.Omega.{arith}
use lib.ListN.{length, get_or, set, take, drop}
use lib.Seq.{get_or-set_same}
use borrow.Rule.Slice.PartMut.{put_mid}
use mir.Syntax.{w64}
use mir.Val.{Fits}
use Rattle.folds.specs.Fold.{over, put, part, zeros}
use Rattle.folds.proofs.Slices.{put_part, length_part, length_over, length-put}
use Rattle.folds.proofs.Parts.{part-put}
use Rattle.graph.specs.Graph.{joining, Inside}
use Rattle.graph.specs.Links.{Linked, Ended, leave}
use Rattle.graph.specs.Coarse.{LinkedAt}
use Rattle.graph.proofs.Coarse.{coarse_ended}
use Rattle.topology.specs.Order.{order_of}
use Rattle.topology.specs.Level.{levels_of}
use Rattle.topology.proofs.Orders.{order_few}
use Rattle.row_lists.specs.Carry.{Maps, Next, Merged}
use Rattle.row_lists.proofs.Carrying.{handed}
use Rattle.hierarchy.specs.Promises.{LevelsAt, HandsOn, HandedOn}
use Rattle.hierarchy.proofs.OneRound.{rows_in_lem}

-- places of rows of m entries
pub next_place : (r m : ℕ) → r < 8 → r * m + m + m ≤ 9 * m
next_place r m l = omega (arith, suc-mul r m, mul-le-mul_right m l)

pub place_few : (r m : ℕ) → r < 8 → m ≤ 1024 → r * m ≤ 8192
place_few r m l h = omega (arith, suc-mul r m, mul-le-mul_right m l)

-- they fit a word
pub at_fits : (r m : ℕ) → r < 8 → m ≤ 1024 → Fits w64 (r * m)
at_fits r m l h = omega (arith, place_few r m l h)

pub past_fits : (r m : ℕ) → r < 8 → m ≤ 1024 → Fits w64 (r * m + m)
past_fits r m l h = omega (arith, place_few r m l h)

pub end_fits : (r m s x : ℕ) → r < 8 → m ≤ 1024 → x ≤ s → s ≤ m → Fits w64 (r * m + m + x)
end_fits r m s x l h le few = omega (arith, place_few r m l h)

-- small steps, apart so that they are taken among few facts
pub few_more : (n : ℕ) → n ≤ 512 → n ≤ 1024
few_more n l = omega arith

pub few_by : {x y m : ℕ} → x ≡ y → y ≤ m → x ≤ m
few_by e l = omega arith

pub add_le : (a : ℕ) {s m : ℕ} → s ≤ m → a + s ≤ a + m
add_le a l = omega arith

pub le_self : (n : ℕ) → n ≤ n
le_self n = omega arith

-- a list of at most m entries fits behind row r's
pub next_room : (r m : ℕ) {s x : ℕ} → r < 8 → s ≤ m → 9 * m ≤ x → r * m + m + s ≤ x
next_room r m l few room = omega (arith, next_place r m l)

pub next_sized : {map froms tos widths froms' tos' widths' : List ℕ} {g h a size size' b count : ℕ} → size ≡ size'
    → Next map g h a size b froms tos widths froms' tos' widths' count → Next map g h a size' b froms tos widths froms' tos' widths' count
next_sized e N = rw e at N

module _ {map froms tos widths froms' tos' widths' : List ℕ} {g h a size b count : ℕ} (few : h ≤ 512) (N : Next map g h a size b froms tos widths froms' tos' widths' count)
    (rf : b + size ≤ length froms) (rt : b + size ≤ length tos) where
  to_count : length N.to ≡ count
  to_count = N.lists.same_ends ∙ N.counts

  pub from_part : part froms' b count ≡ N.from
  from_part = rw N.froms_are (rw N.counts at (part-put froms N.from b (omega (arith, N.counts, N.few))))

  pub to_part : part tos' b count ≡ N.to
  to_part = rw N.tos_are (rw to_count at (part-put tos N.to b (omega (arith, to_count, N.few))))

  pub next_ended : Ended (part froms' b count) (part tos' b count)
  next_ended = rw (from_part, to_part) (coarse_ended N.lists few)

  pub next_inside : Inside (joining (part froms' b count) (part tos' b count)) h
  next_inside =
      let I : Inside (joining N.from N.to) h = λ j l. (N.lists.from_in j l, N.lists.to_in j l) in
      rw (from_part, to_part) I

  pub from_fits : b + count ≤ length froms'
  from_fits = rw (N.froms_are, length-put froms b N.from (omega (arith, N.counts, N.few))) (omega (arith, N.few))

  pub to_fits : b + count ≤ length tos'
  to_fits = rw (N.tos_are, length-put tos b N.to (omega (arith, to_count, N.few))) (omega (arith, N.few))

  pub next_orders : (orders : List ℕ) {q : List ℕ} (c n : ℕ) → c + n ≤ length orders → h ≤ n
      → q ≡ over (order_of (joining (part froms' b count) (part tos' b count)) h) (take (c + n - c) (drop c orders))
      → put_mid c (c + n - c) orders q ≡ put orders c (over (order_of (joining N.from N.to) h) (part orders c n))
  next_orders orders {q} c n room le eq =
      let o = order_of (joining N.from N.to) h in
      let p : q ≡ over o (part orders c n) = rw (from_part, to_part, handed orders c n) at eq in
      let k : c + n - c ≡ n = omega arith in
      let l : length (over o (part orders c n)) ≡ n = length_over o (part orders c n) (rw (length_part orders c n room) (omega (arith, order_few (joining N.from N.to) h))) ∙ length_part orders c n room in
      put_part orders (over o (part orders c n)) q c (c + n - c) p (k ∙ sym l)

  pub next_links : {head next : List ℕ} (r m : ℕ) (sizes : List ℕ) → b ≡ r * m + m → r < 8 → length sizes ≡ 9
      → Linked (leave (joining (part froms' b count) (part tos' b count))) (length (part froms' b count)) head next
      → LinkedAt m (r + 1) froms' tos' (set sizes (r + 1) count) head next
  next_links r m sizes eb lr nine L =
      let q : (r + 1) * m ≡ b = omega (arith, suc-mul r m) in
      record { linked = rw (q, get_or-set_same sizes (r + 1) count 0 (omega arith)) L }

  pub next_levels : {levels : List ℕ} (r m : ℕ) (sizes : List ℕ) → b ≡ r * m + m → r < 8 → length sizes ≡ 9
      → (length (order_of (joining (part froms' b count) (part tos' b count)) h) ≡ h → levels ≡ over (levels_of (joining (part froms' b count) (part tos' b count)) h) (zeros 512))
      → length (order_of (joining N.from N.to) h) ≡ h → LevelsAt m (r + 1) h froms' tos' (set sizes (r + 1) count) levels
  next_levels {levels} r m sizes eb lr nine L all =
      let q : (r + 1) * m ≡ b = omega (arith, suc-mul r m) in
      record { are = rw (q, get_or-set_same sizes (r + 1) count 0 (omega arith)) (L (rw (from_part, to_part) all)) }

-- what a row's calls leave, one after another, is what is handed on
pub hand_over : {map froms tos widths sizes orders weights froms' tos' widths' sizes₁ orders₁ froms'' tos'' weights₁ weights' head next levels' q : List ℕ} {n m r g h size count : ℕ}
    → Maps map g h → h ≤ n → HandsOn n m r g froms tos widths sizes orders weights → size ≡ get_or sizes r 0
    → Next map g h (r * m) size (r * m + m) froms tos widths froms' tos' widths' count → sizes₁ ≡ sizes → orders₁ ≡ orders → Merged map weights g weights₁
    → froms'' ≡ froms' → tos'' ≡ tos' → weights' ≡ weights₁
    → Linked (leave (joining (part froms' (r * m + m) count) (part tos' (r * m + m) count))) (length (part froms' (r * m + m) count)) head next
    → q ≡ over (order_of (joining (part froms' (r * m + m) count) (part tos' (r * m + m) count)) h) (take (r * n + n + n - (r * n + n)) (drop (r * n + n) orders₁))
    → (length (order_of (joining (part froms' (r * m + m) count) (part tos' (r * m + m) count)) h) ≡ h → levels' ≡ over (levels_of (joining (part froms' (r * m + m) count) (part tos' (r * m + m) count)) h) (zeros 512))
    → HandedOn map n m r g h froms tos widths sizes orders weights froms'' tos'' widths' (set sizes₁ (r + 1) count) (put_mid (r * n + n) (r * n + n + n - (r * n + n)) orders₁ q) weights' levels'
    × LinkedAt m (r + 1) froms'' tos'' (set sizes₁ (r + 1) count) head next
hand_over {sizes = sizes} {orders = orders} {n = n} {m = m} {r = r} {count = count} M le H e N₀ es eo D ef et ew L O V =
    let N = next_sized e N₀ in
    let rf = next_room r m H.row H.few H.from_room in
    let rt = next_room r m H.row H.few H.to_room in
    rw (es, eo, ef, et, ew) (
      record {
        count = count;
        next = N;
        sizes_are = refl;
        merged = D;
        orders_are = next_orders M.low N rf rt orders (r * n + n) n (rows_in_lem r n (length orders) H.row H.order_room) le (rw eo at O);
        levels_are = next_levels M.low N rf rt r m sizes refl H.row H.nine V;
      },
      next_links M.low N rf rt r m sizes refl H.row H.nine L,
    )
