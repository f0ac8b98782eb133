-- The table of specs/Examples computes: P1 to P11 of document 01 and a case for each other clause. What breaks where a definition is bent.
use Rattle.std.specs.Prelude.{T}
use Rattle.meaning.specs.Count as Count
use Rattle.meaning.specs.Register as Register
use Rattle.meaning.specs.Level as Level
use Rattle.meaning.specs.Question as Question
use Rattle.meaning.specs.Reading as Reading
use Rattle.meaning.specs.Summary as Summary
use Rattle.meaning.specs.Condense as Condense
use Rattle.meaning.specs.WellFormed as WellFormed
use Rattle.meaning.specs.Check as Check
use Rattle.meaning.specs.Bytes as Bytes
use Rattle.meaning.specs.RegisterFile as RegisterFile
use Rattle.meaning.specs.SummaryFile as SummaryFile
use Rattle.meaning.specs.QuestionFile as QuestionFile
use Rattle.meaning.specs.Answers as Answers
use Rattle.meaning.specs.Figures as Figures
use Rattle.meaning.specs.Cases as Cases
use Rattle.meaning.specs.Examples.{table, passes, numbered, same, equal, asked, row}

-- every case of the table is answered as document 01 says: computed with the definitions of each page, which are named here
pub examples : T (passes table)
unfolding passes table numbered same equal asked row
    Cases.so Cases.bytes Cases.counts Cases.tallied Cases.judged Cases.read Cases.sign_and_size Cases.handed Cases.registers Cases.questions Cases.holding
    Cases.reaching Cases.well_formedness Cases.condensing Cases.checking Cases.orders Cases.lent
    Figures.A Figures.chain Figures.three Figures.pair Figures.empty Figures.marked Figures.a_link Figures.drawn Figures.crossed Figures.by_target
    Figures.doubled Figures.knot Figures.fifteen Figures.uneven Figures.S1 Figures.none Figures.a_class Figures.a_row Figures.picture
    Figures.proposed Figures.classes_a Figures.out_a Figures.out_a2 Figures.in_a Figures.in_a2 Figures.rows_a Figures.links_a Figures.map_a
    Figures.classed Figures.rowed Figures.linked Figures.mapped Figures.chained Figures.three_as Figures.fifteen_as Figures.fifteen_in_two Figures.knot_summary
    Figures.crossed_summary Figures.ring Figures.disagreeing Figures.sized Figures.crowd Figures.entry Figures.literal Figures.out
    Figures.incoming Figures.truth Figures.negated Figures.conjoined Figures.disjoined Figures.deep Figures.nots
    Count.sum Count.all Count.those Count.seek Count.tab Count.join Count.total Count.any Count.each Count.ascends
    Register.marks_of Register.same_way Register.near Register.far Register.leads Register.neighbours
    Level.same_count Level.same_around Level.alike Level.first Level.lowest Level.number Level.class_list Level.class_count Level.lowest_item
    Question.bit Question.shows Question.holds Question.depth Question.threshold
    Reading.push Reading.and_push Reading.stack Reading.only Reading.tree
    Summary.class_of Summary.class_at Summary.group_at Summary.lowest_class Summary.row_for Summary.counted Summary.stated Summary.joins
    Summary.holds_at Summary.list
    Condense.row_unless Condense.rows_that Condense.class_for Condense.links_from Condense.summary_by Condense.summary_of
    WellFormed.within WellFormed.link_key WellFormed.way WellFormed.row_key WellFormed.link_in WellFormed.in_range WellFormed.class_in
    WellFormed.row_in WellFormed.has_row WellFormed.has_link WellFormed.rows_match WellFormed.sizes WellFormed.numbers WellFormed.order
    WellFormed.groups_used WellFormed.well_formed
    Check.row_right Check.image_stands Check.is_image Check.fits
    Bytes.num2 Bytes.num4 Bytes.put2 Bytes.put4 Bytes.pack
    RegisterFile.link_at RegisterFile.put_link RegisterFile.register_in RegisterFile.register_head RegisterFile.register_bytes RegisterFile.headed
    RegisterFile.links_fine RegisterFile.fault
    SummaryFile.class_is SummaryFile.put_class SummaryFile.way_from SummaryFile.label_from SummaryFile.row_is SummaryFile.put_row
    SummaryFile.summary_in SummaryFile.summary_head SummaryFile.summary_bytes SummaryFile.exact SummaryFile.well_formed_file
    QuestionFile.signed QuestionFile.when QuestionFile.kind QuestionFile.and_kind QuestionFile.kinds QuestionFile.tree_of QuestionFile.question
    Answers.returned Answers.code Answers.left Answers.unless Answers.into Answers.condense Answers.check Answers.ask_tree Answers.ask_register
    Answers.beyond Answers.ask_in Answers.ask_summary Answers.list_in Answers.list
examples = tt
