pub mod Courses
pub mod OneCourse
