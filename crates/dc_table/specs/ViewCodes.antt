-- Views as trees of numbers.
use Rattle.std.specs.Prelude.{◌≡◌, ℕ, zero, suc, List, Bool, refl}
use Rattle.std.specs.Coded.{Coded, code_by, coded×, coded_list, coded_ℕ, coded_bool}
use Rattle.dc_plain.specs.Requests.{Request, Answer}
use Rattle.dc_events.specs.Views.{Note, Record, Walk, Book, Hold, Fault, View}
use Rattle.dc_events.specs.Views.Fault.{Busy, Changed}
use Rattle.dc_table.specs.Codes.{coded_bytes, coded_request, coded_answer}

abbrev fault_to : Fault → ℕ × (ℕ × (ℕ × ℕ))
fault_to (Busy row) = (0, (row, (0, 0)))
fault_to (Changed row noted found) = (1, (row, (noted, found)))

abbrev fault_by : ℕ → ℕ → ℕ → ℕ → Fault
fault_by zero row noted found = Busy row
fault_by (suc n) row noted found = Changed row noted found

pub fault_round : (fault : Fault) → fault_by (fault_to fault).0 (fault_to fault).1.0 (fault_to fault).1.1.0 (fault_to fault).1.1.1 ≡ fault
fault_round (Busy row) = refl
fault_round (Changed row noted found) = refl

abbrev pub coded_fault : Coded Fault
coded_fault = code_by (ℕ × (ℕ × (ℕ × ℕ))) (coded× coded_ℕ (coded× coded_ℕ (coded× coded_ℕ coded_ℕ))) fault_to (λ x. fault_by x.0 x.1.0 x.1.1.0 x.1.1.1) fault_round

abbrev pub coded_note : Coded Note
coded_note = code_by (ℕ × (ℕ × (List ℕ × Bool))) (coded× coded_ℕ (coded× coded_ℕ (coded× coded_bytes coded_bool)))
    (λ x. (x.row, (x.count, (x.words, x.checked)))) (λ p. record { row = p.0; count = p.1.0; words = p.1.1.0; checked = p.1.1.1 }) (λ _. refl)

abbrev pub coded_record : Coded Record
coded_record = code_by (Request × (Answer × (ℕ × Bool))) (coded× coded_request (coded× coded_answer (coded× coded_ℕ coded_bool)))
    (λ x. (x.call, (x.reply, (x.at, x.altered)))) (λ p. record { call = p.0; reply = p.1.0; at = p.1.1.0; altered = p.1.1.1 }) (λ _. refl)

abbrev pub coded_walk : Coded Walk
coded_walk = code_by (Bool × (Request × (List Note × (Bool × ℕ)))) (coded× coded_bool (coded× coded_request (coded× (coded_list coded_note) (coded× coded_bool coded_ℕ))))
    (λ x. (x.busy, (x.call, (x.notes, (x.pivoted, x.pivot))))) (λ p. record { busy = p.0; call = p.1.0; notes = p.1.1.0; pivoted = p.1.1.1.0; pivot = p.1.1.1.1 }) (λ _. refl)

abbrev pub coded_book : Coded Book
coded_book = code_by (ℕ × (List Record × List (List Record))) (coded× coded_ℕ (coded× (coded_list coded_record) (coded_list (coded_list coded_record))))
    (λ x. (x.seen, (x.own, x.joined))) (λ p. record { seen = p.0; own = p.1.0; joined = p.1.1 }) (λ _. refl)

abbrev pub coded_hold : Coded Hold
coded_hold = code_by (Bool × (List Request × List ℕ)) (coded× coded_bool (coded× (coded_list coded_request) coded_bytes))
    (λ x. (x.holds, (x.history, x.words))) (λ p. record { holds = p.0; history = p.1.0; words = p.1.1 }) (λ _. refl)

abbrev pub coded_view : Coded View
coded_view = code_by (Walk × (Book × (Hold × (ℕ × (ℕ × List Fault))))) (coded× coded_walk (coded× coded_book (coded× coded_hold (coded× coded_ℕ (coded× coded_ℕ (coded_list coded_fault))))))
    (λ x. (x.walk, (x.book, (x.hold, (x.loads, (x.first_load, x.faults))))))
    (λ p. record { walk = p.0; book = p.1.0; hold = p.1.1.0; loads = p.1.1.1.0; first_load = p.1.1.1.1.0; faults = p.1.1.1.1.1 }) (λ _. refl)
