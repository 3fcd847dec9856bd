pub mod TallyMeans
pub mod VoteMeans
pub mod SiteNumbers
