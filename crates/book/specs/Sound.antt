-- When stored tables are sound.
use Rattle.std.specs.Prelude.{ℤ, pos, neg_ℤ, count_by, int_le, Bool, true, false, not, ◌&&◌, ◌||◌, List, ℕ, eqb, leb, ltb, length}
use Rattle.std.specs.List.{list_all}
use Rattle.sharing.specs.Limits.{most_quantity, most_power, most_area, most_objects}
use Rattle.tariff.specs.Rows.{rows_good}
use Rattle.book.specs.Limits.{month_count, most_register, most_events, most_amount, most_balance}
use Rattle.book.specs.Records.{Kind, Month, Correction, Discount, Extra, Payment, Line, Node, Object, Recipient, amounts_in}
use Rattle.book.specs.World.{InUse, World, allowed, in_use}

-- a table holds no more than it has places for
abbrev pub fits : {A : Type 0} → ℕ → List A → Bool
fits places xs = leb (length xs) places

-- a number is within a limit either way
abbrev pub within : ℕ → ℤ → Bool
within most z = int_le (neg_ℤ (pos most)) z && int_le z (pos most)

-- an amount of a line, or its heat, is within its limit
abbrev pub amount_good : ℤ → Bool
amount_good z = within most_amount z

-- and a balance
abbrev pub balance_good : ℤ → Bool
balance_good z = within most_balance z

-- a recipient's balance is within its limit
abbrev pub recipient_good : Recipient → Bool
recipient_good r = balance_good r.balance

-- a node's numbers are within their limits; its next month may be the one past the last
abbrev pub node_good : Node → Bool
node_good n = leb n.month month_count && (leb n.register most_register && (leb n.carried most_quantity && leb n.events most_events))

-- what an object names is in use, and its power and area are within their limits
abbrev pub object_good : InUse → Object → Bool
object_good used o =
    ltb o.node used.nodes && (ltb o.recipient used.recipients && (ltb o.row used.rows && (leb o.power most_power && leb o.area most_area)))

-- a line of a month, or a correction of it: it names a node, an object and a row
abbrev pub of_a_month : Kind → Bool
of_a_month Month = true
of_a_month Correction = true
of_a_month Discount = false
of_a_month Extra = false
of_a_month Payment = false

-- what a line names is in use: of a discount, an extra charge or a payment the recipient only
abbrev pub names_good : InUse → Line → Bool
names_good used l =
    ltb l.recipient used.recipients
    && (not (of_a_month l.kind) || (ltb l.node used.nodes && (ltb l.object used.objects && ltb l.row used.rows)))

-- a line's numbers are within their limits
abbrev pub numbers_good : Line → Bool
numbers_good l =
    ltb l.month month_count && (leb l.kw most_power && (leb l.weight most_quantity && (amount_good l.heat && leb l.water most_quantity)))

-- all of that, and its amounts are within their limits
abbrev pub line_good : InUse → Line → Bool
line_good used l = names_good used l && (numbers_good l && list_all amount_good (amounts_in l.amounts))

-- how many objects a node has
abbrev pub crowd : ℕ → List Object → ℕ
crowd node objects = count_by (λ o. eqb o.node node) objects

-- counts within places and limits
abbrev pub counts_good : World → Bool
counts_good w =
    fits (allowed w.places).rows w.rows
    && (fits (allowed w.places).recipients w.recipients
    && (fits (allowed w.places).nodes w.nodes
    && (fits (allowed w.places).objects w.objects
    && fits (allowed w.places).lines w.lines)))

-- every record is good
abbrev pub records_good : World → Bool
records_good w =
    list_all recipient_good w.recipients
    && (list_all node_good w.nodes && (list_all (object_good (in_use w)) w.objects && list_all (line_good (in_use w)) w.lines))

-- sound: counts within places and limits, rows that keep the rules, names in use, numbers within limits, and no node with too many objects
unfoldable pub sound : World → Bool
sound w = counts_good w && rows_good w.rows && records_good w && list_all (λ o. leb (crowd o.node w.objects) most_objects) w.objects
